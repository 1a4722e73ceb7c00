-- The rows of a tree's splits, and of ways through it.
use Rattle.std.proofs.Common.{◌≡◌, ℕ, ◌+◌, ◌^◌, ◌<◌, Bool, true, false, List, [], ◌∷◌, ◌++◌, length, get_or, map, unsigned_abs, pos, negsuc, Some, All, sym, ◌∙◌, ap, subst, lit<, Result, IfOk, take}
use Rattle.std.specs.Prelude.{slice_get}
use Rattle.std.proofs.Common.{Ok, Err}
use Rattle.std.proofs.lemmas.List.{length-map, map-append, take_more, append_assoc, get_or-map}
use Rattle.std.proofs.lemmas.Option.{get_or_from_slice_get}
use Rattle.mpc_exact.specs.Rational.{int}
use Rattle.mpc_space.proofs.Entries.{length-scale}
use Rattle.mpc_linear.specs.declared.integers.RowInt.{RowInt}
use Rattle.mpc_linear.specs.Whole.{AreSmall}
use Rattle.mpc_rows.specs.LawRows.{broken_row}
use Rattle.mpc_rows.specs.declared.systems.Row.{Row}
use Rattle.mpc_rows.specs.declared.trees.Node.{Node}
use Rattle.mpc_rows.specs.declared.trees.Node.TheVariants.{Split, NoMove}
use Rattle.mpc_controller.specs.Parts.{IsSplitRow}
use Rattle.mpc_controller.specs.declared.ways.Turn.{Turn}
use Rattle.mpc_controller.specs.Ways.{HasSplitRow, side_row, split_row, turn_row, way_rows}
use Rattle.mpc_recur.proofs.ElementLemmas.{all_at, All-split, all_with}

module _ (n : ℕ) (nodes : List Node) (splits : All (HasSplitRow n) nodes) (place : ℕ) (node : Node) (at : slice_get nodes place ≡ Some node) (row : RowInt) (is : node ≡ Split row) where
  pub split_fits : IsSplitRow n row
  split_fits = subst (HasSplitRow n) is (all_at (HasSplitRow n) nodes place node at splits)

  parts : AreSmall row.a × AreSmall (row.b ∷ [])
  parts = All-split (λ z. unsigned_abs z < 2 ^ 127) row.a (row.b ∷ []) split_fits.small

  pub split_small : AreSmall row.a
  split_small = parts.0

  pub split_side_small : unsigned_abs row.b < 2 ^ 127
  split_side_small = parts.1 0 (pos 0) (lit< tt)

  -- the row behind a turn there
  pub row_behind : (turn : Turn) (side : Bool) → turn.split ≡ place → turn.yes ≡ side → side_row side row ≡ turn_row nodes turn
  row_behind turn side e f =
      sym ((λ t. side_row (f t) (split_row (get_or nodes (e t) (NoMove [])))) ∙ ap (λ x. side_row side (split_row x)) (get_or_from_slice_get nodes place node (NoMove []) at ∙ is))

-- ---- widths
broken_wide : (row : RowInt) (n : ℕ) → length row.a ≡ n → length (broken_row row).a ≡ n
broken_wide row n e = length-scale (int (negsuc 0)) (map int row.a) ∙ length-map row.a int ∙ e

pub side_wide : (n : ℕ) (side : Bool) (row : RowInt) → length row.a ≡ n → length (side_row side row).a ≡ n
side_wide n true row e = length-map row.a int ∙ e
side_wide n false row e = broken_wide row n e

pub sized : {E : Type 0} (r : Result Row E) (x : Row) (n : ℕ) → IfOk r (λ y. y ≡ x) → length x.a ≡ n → IfOk r (λ y. length y.a ≡ n)
sized (Ok y) x n h e = ap (λ (z : Row). length z.a) h ∙ e
sized (Err error) x n h e = tt

-- ---- one row more of a way
module _ (nodes : List Node) (way : List Turn) (k : ℕ) (d : Turn) (row : Row) (h : k < length way) (e : row ≡ turn_row nodes (get_or way k d)) where
  rows_more : map (turn_row nodes) (take (k + 1) way) ≡ map (turn_row nodes) (take k way) ++ row ∷ []
  rows_more = ap (map (turn_row nodes)) (take_more way k d h) ∙ map-append (turn_row nodes) (take k way) (get_or way k d ∷ []) ∙ ap (λ r. map (turn_row nodes) (take k way) ++ r ∷ []) (sym e)

  pub changed_more : (f : Row → Row) (old sys new : List Row) (changed : Row) → sys ≡ old ++ map f (map (turn_row nodes) (take k way)) → new ≡ sys ++ changed ∷ [] → changed ≡ f row → new ≡ old ++ map f (map (turn_row nodes) (take (k + 1) way))
  changed_more f old sys new changed es en ec =
      en ∙ (λ i. es i ++ ec i ∷ []) ∙ append_assoc old (map f (map (turn_row nodes) (take k way))) (f row ∷ [])
      ∙ ap (λ rows. old ++ rows) (sym (ap (map f) rows_more ∙ map-append f (map (turn_row nodes) (take k way)) (row ∷ [])))

  pub all_more : (P : Row → Type 0) → All P (map (turn_row nodes) (take k way)) → P row → All P (map (turn_row nodes) (take (k + 1) way))
  all_more P before here = subst (All P) (sym rows_more) (all_with P (map (turn_row nodes) (take k way)) row before here)

  pub all_here : (P : Row → Type 0) → All P (way_rows nodes way) → P row
  all_here P all = subst P (get_or-map (turn_row nodes) way k d row h ∙ sym e) (all k row (subst (λ n. k < n) (sym (length-map way (turn_row nodes))) h))

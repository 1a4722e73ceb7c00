-- The rows of a tree's splits, and of ways through it.
use Rattle.std.proofs.Common.{◌≡◌, ℕ, ◌+◌, ◌^◌, ◌<◌, Bool, true, false, List, [], ◌∷◌, length, get_or, map, unsigned_abs, pos, Some, All, sym, ◌∙◌, ap, subst, lit<}
use Rattle.std.specs.Prelude.{slice_get}
use Rattle.std.specs.List.{AllByRecursion}
use Rattle.std.proofs.lemmas.List.Elements.{All-from_recursion, recursion_from_All}
use Rattle.std.proofs.lemmas.List.{get_or-map, length-map}
use Rattle.std.proofs.lemmas.Option.{get_or_from_slice_get}
use Rattle.mpc_exact.specs.Rational.{int}
use Rattle.mpc_linear.specs.declared.integers.RowInt.{RowInt}
use Rattle.mpc_linear.specs.Whole.{AreSmall}
use Rattle.mpc_rows.specs.declared.programs.Qp.{Qp}
use Rattle.mpc_rows.specs.declared.systems.Row.{Row}
use Rattle.mpc_rows.specs.declared.trees.Node.{Node}
use Rattle.mpc_rows.specs.declared.trees.Node.TheVariants.{Split, NoMove}
use Rattle.mpc_rows.specs.LinearSystem.{no_row}
use Rattle.mpc_controller.specs.Parts.{IsSplitRow}
use Rattle.mpc_controller.specs.declared.ways.Turn.{Turn}
use Rattle.mpc_systems.specs.Writing.{widened}
use Rattle.mpc_controller.specs.Ways.{HasSplitRow, IsTurn, side_row, split_row, turn_row, way_rows}
use Rattle.mpc_check.specs.LeafSystems.{system_at}
use Rattle.mpc_check.specs.Widths.{IsOfWidth}
use Rattle.mpc_check.proofs.ElementLemmas.{all_at, All-split}
use Rattle.mpc_check.proofs.RowWidths.{broken_wide, path_widened, system_wide}

module _ (n : ℕ) (nodes : List Node) (splits : All (HasSplitRow n) nodes) (place : ℕ) (node : Node) (at : slice_get nodes place ≡ Some node) (row : RowInt) (is : node ≡ Split row) where
  fits : IsSplitRow n row
  fits = subst (HasSplitRow n) is (all_at (HasSplitRow n) nodes place node at splits)

  parts : AreSmall row.a × AreSmall (row.b ∷ [])
  parts = All-split (λ z. unsigned_abs z < 2 ^ 127) row.a (row.b ∷ []) fits.small

  pub split_size : length row.a ≡ n
  split_size = fits.size

  pub split_small : AreSmall row.a
  split_small = parts.0

  pub split_side_small : unsigned_abs row.b < 2 ^ 127
  split_side_small = parts.1 0 (pos 0) (lit< tt)

  -- the row behind a turn there
  pub row_behind : (turn : Turn) (side : Bool) → turn.split ≡ place → turn.yes ≡ side → side_row side row ≡ turn_row nodes turn
  row_behind turn side e f =
      sym ((λ t. side_row (f t) (split_row (get_or nodes (e t) (NoMove [])))) ∙ ap (λ x. side_row side (split_row x)) (get_or_from_slice_get nodes place node (NoMove []) at ∙ is))

pub way_row : (nodes : List Node) (way : List Turn) (more i : ℕ) (d : Turn) → i < length way → widened more (turn_row nodes (get_or way i d)) ≡ get_or (map (widened more) (way_rows nodes way)) i no_row
way_row nodes way more i d h =
    ap (widened more) (sym (get_or-map (turn_row nodes) way i d no_row h))
    ∙ sym (get_or-map (widened more) (way_rows nodes way) i no_row no_row (subst (λ n. i < n) (sym (length-map way (turn_row nodes))) h))

pub way_count : (nodes : List Node) (way : List Turn) (more : ℕ) → length (map (widened more) (way_rows nodes way)) ≡ length way
way_count nodes way more = length-map (way_rows nodes way) (widened more) ∙ length-map way (turn_row nodes)

-- ---- widths
side_wide : (n : ℕ) (side : Bool) (row : RowInt) → length row.a ≡ n → IsOfWidth n (side_row side row)
side_wide n true row e = length-map row.a int ∙ e
side_wide n false row e = broken_wide row n e

module _ (n : ℕ) (nodes : List Node) (splits : All (HasSplitRow n) nodes) where
  turn_wide : (turn : Turn) → IsTurn nodes turn → IsOfWidth n (turn_row nodes turn)
  turn_wide turn t =
      subst (IsOfWidth n) (row_behind n nodes splits turn.split (Split t.row) t.is_split t.row (λ _. Split t.row) turn turn.yes (λ _. turn.split) (λ _. turn.yes))
      (side_wide n turn.yes t.row (all_at (HasSplitRow n) nodes turn.split (Split t.row) t.is_split splits).size)

  way_wide : (way : List Turn) → AllByRecursion (IsTurn nodes) way → AllByRecursion (IsOfWidth n) (way_rows nodes way)
  way_wide [] h = tt
  way_wide (turn ∷ way) h = (turn_wide turn h.0, way_wide way h.1)

  pub way_rows_wide : (way : List Turn) → All (IsTurn nodes) way → All (IsOfWidth n) (way_rows nodes way)
  way_rows_wide way h = All-from_recursion (IsOfWidth n) (way_rows nodes way) (way_wide way (recursion_from_All (IsTurn nodes) way h))

pub system_rows_wide : (qp : Qp) (nodes : List Node) (way : List Turn) (more : ℕ) (last : List Row) → All (IsTurn nodes) way → All (HasSplitRow (length qp.counts)) nodes → All (IsOfWidth (length qp.counts + more)) last
    → All (IsOfWidth (length qp.counts + more)) (system_at qp nodes way more last).rows
system_rows_wide qp nodes way more last turns splits wide =
    (system_wide (length qp.counts + more) qp.counts (map (widened more) (way_rows nodes way)) last (path_widened (length qp.counts) more (way_rows nodes way) (way_rows_wide (length qp.counts) nodes splits way turns)) wide).each

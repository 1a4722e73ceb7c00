-- The rows that the turns of a tree ask of the point behind one step, and what they show of a leaf without points.
use Rattle.std.proofs.Common.{◌≡◌, ℕ, ◌+◌, ◌<◌, Bool, true, false, List, [], ◌∷◌, ◌++◌, length, get_or, map, Option, Some, None, IfSome, is_some, true≢false, All, Result, Ok, Err, IfOk, sym, ◌∙◌, ap, subst, arith, ⊎_elim}
use Rattle.std.specs.Prelude.{slice_get}
use Rattle.std.proofs.Math.Seq.{get_or-append_seam}
use Rattle.std.proofs.lemmas.Bool.{cases_eq}
use Rattle.std.proofs.lemmas.List.{length-append, length-map, get_or_append_left, get_or-map}
use Rattle.std.proofs.lemmas.List.Elements.{All-nil}
use Rattle.std.proofs.lemmas.Option.{slice_get_within, get_or_from_slice_get}
use Rattle.mpc_exact.specs.Rational.{ℚ}
use Rattle.mpc_linear.specs.declared.integers.RowInt.{RowInt}
use Rattle.mpc_rows.specs.declared.systems.Row.{Row}
use Rattle.mpc_rows.specs.declared.trees.Node.{Node}
use Rattle.mpc_rows.specs.declared.trees.Node.TheVariants.{Split, NoMove}
use Rattle.mpc_rows.specs.LinearSystem.{LinearSystem, no_row, MeetsRow}
use Rattle.mpc_rows.specs.LawRows.{whole_row, broken_row}
use Rattle.mpc_rows.specs.Run.{position}
use Rattle.mpc_rows.specs.RunWidth.{RunFits}
use Rattle.mpc_simplex.specs.Answer.{HasPoint, EndsRefuted}
use Rattle.mpc_beginnings.specs.Beginnings.{lengthened, AppendedFits, FitRefuted}
use Rattle.mpc_controller.specs.Paths.{PathTo, root, yes_side, no_side}
use Rattle.mpc_controller.specs.Ways.{side_row, split_row, turn_at, turn_row}
use Rattle.mpc_recur.specs.Asked.{IsAsked, AreAsked, AreAmong}
use Rattle.mpc_recur.specs.Findings.{IsRuledOut}
use Rattle.mpc_recur.specs.Forms.{substituted, SubstitutedFits}
use Rattle.mpc_recur.specs.Targets.{with_rows}
use Rattle.mpc_recur.proofs.ElementLemmas.{All-split, all_with}

-- ---- what two clauses give together
pub if_both : {T E : Type 0} (r : Result T E) (P Q R : T → Type 0) → ((x : T) → P x → Q x → R x) → IfOk r P → IfOk r Q → IfOk r R
if_both (Ok x) P Q R f p q = f x p q
if_both (Err e) P Q R f p q = tt

-- ---- what is said of a value that is there
pub some_holds : {A : Type 0} (o : Option A) (P : Type 0) → is_some o ≡ true → IfSome o (λ _. P) → P
some_holds (Some x) P there p = p
some_holds None P there p = absurd (true≢false (sym there))

module _ (forms : List (List ℚ)) where
  -- ---- one row more
  asked_longer : (s t : LinearSystem) (row more : Row) → t.rows ≡ s.rows ++ more ∷ [] → IsAsked forms s row → IsAsked forms t row
  asked_longer s t row more e h = record {
    fits = h.fits;
    place = h.place;
    below = let size = ap length e ∙ length-append s.rows (more ∷ []) in let b = h.below in omega arith;
    is = ap (λ rows. get_or rows h.place no_row) e ∙ get_or_append_left s.rows (more ∷ []) no_row h.place h.below ∙ h.is;
  }

  asked_last : (s t : LinearSystem) (row : Row) → t.rows ≡ s.rows ++ substituted (length forms) forms row ∷ [] → SubstitutedFits (length forms) forms row → IsAsked forms t row
  asked_last s t row e fits = record {
    fits = fits;
    place = length s.rows;
    below = let size = ap length e ∙ length-append s.rows (substituted (length forms) forms row ∷ []) in omega arith;
    is = ap (λ rows. get_or rows (length s.rows) no_row) e ∙ get_or-append_seam s.rows (substituted (length forms) forms row) [] no_row;
  }

  -- ---- one node more
  module _ (nodes : List Node) (split : ℕ) (s : LinearSystem) (before : AreAsked nodes forms split s) where
    pub asked_over : ((row : RowInt) → slice_get nodes split ≡ Some (Split row) → ⊥) → AreAsked nodes forms (split + 1) s
    asked_over not = record {
      width = before.width;
      each = λ turn below is. ⊎_elim (λ e. absurd (not is.row (subst (λ k. slice_get nodes k ≡ Some (Split is.row)) e is.is_split))) (λ apart. before.each turn (omega arith) is) (cases_eq turn.split split);
    }

    module _ (t u : LinearSystem) (wt : t.width ≡ s.width) (wu : u.width ≡ t.width)
        (et : t.rows ≡ s.rows ++ substituted (length forms) forms (turn_row nodes (turn_at split true)) ∷ []) (eu : u.rows ≡ t.rows ++ substituted (length forms) forms (turn_row nodes (turn_at split false)) ∷ [])
        (ft : SubstitutedFits (length forms) forms (turn_row nodes (turn_at split true))) (fu : SubstitutedFits (length forms) forms (turn_row nodes (turn_at split false))) where
      asked_here : (side : Bool) → IsAsked forms u (turn_row nodes (turn_at split side))
      asked_here true = asked_longer t u _ _ eu (asked_last s t _ et ft)
      asked_here false = asked_last t u _ eu fu

      pub asked_both : AreAsked nodes forms (split + 1) u
      asked_both = record {
        width = wu ∙ wt ∙ before.width;
        each = λ turn below is. ⊎_elim (λ e. subst (λ k. IsAsked forms u (turn_row nodes (turn_at k turn.yes))) (sym e) (asked_here turn.yes))
            (λ apart. asked_longer t u _ _ eu (asked_longer s t _ _ et (before.each turn (omega arith) is))) (cases_eq turn.split split);
      }

  -- ---- the rows of paths
  module _ (nodes : List Node) (s : LinearSystem) (asked : AreAsked nodes forms (length nodes) s) where
    asked_at : (place : ℕ) (row : RowInt) → slice_get nodes place ≡ Some (Split row) → (side : Bool) → IsAsked forms s (side_row side row)
    asked_at place row at side =
        subst (IsAsked forms s) (ap (λ x. side_row side (split_row x)) (get_or_from_slice_get nodes place (Split row) (NoMove []) at))
        (asked.each (turn_at place side) (slice_get_within nodes place (Split row) at) (record { row = row; is_split = at }))

    asked_on_path : (k : ℕ) (other : List Row) → PathTo nodes k other → All (IsAsked forms s) other
    asked_on_path _ _ root = All-nil (IsAsked forms s)
    asked_on_path _ _ (yes_side place row path p at) = all_with (IsAsked forms s) path (whole_row row) (asked_on_path place path p) (asked_at place row at true)
    asked_on_path _ _ (no_side place next row path p at side) = all_with (IsAsked forms s) path (broken_row row) (asked_on_path place path p) (asked_at place row at false)

    fits_on_path : (k : ℕ) (other : List Row) → PathTo nodes k other → All (SubstitutedFits (length forms) forms) other
    fits_on_path k other p i d h = (asked_on_path k other p i d h).fits

    among_on_path : (k : ℕ) (other : List Row) → PathTo nodes k other → AreAmong s (map (substituted (length forms) forms) other)
    among_on_path k other p i h =
        let below : i < length other = subst (λ m. i < m) (length-map other (substituted (length forms) forms)) h in
        let a = asked_on_path k other p i no_row below in
        (a.place, a.below, get_or-map (substituted (length forms) forms) other i no_row no_row below ∙ sym a.is)

    -- what is shown of all rows that are among these
    pub ruled_out_on_path : (base : LinearSystem) → ((more : List Row) → AreAmong s more → IsRuledOut (Unit {0}) (with_rows base more)) → (k : ℕ) (other : List Row) → PathTo nodes k other
        → IsRuledOut (All (SubstitutedFits (length forms) forms) other) (with_rows base (map (substituted (length forms) forms) other))
    ruled_out_on_path base h k other p =
        let r = h (map (substituted (length forms) forms) other) (among_on_path k other p) in
        record { fits = record { rows_fit = fits_on_path k other p; run_fits = r.fits.run_fits }; no_point = r.no_point }

-- ---- a system without a point has none with further rows, and where none is too wide with all of them, none is with some
pub ruled_out_among : FitRefuted → (s rows : LinearSystem) (m : List ℚ) → EndsRefuted s m → ¬ HasPoint s → RunFits (lengthened s rows.rows) → (more : List Row) → AreAmong rows more → IsRuledOut (Unit {0}) (with_rows s more)
ruled_out_among fit_refuted s rows m ends none fits more among =
    let parts = (fit_refuted s rows.rows ends.row ends.ends).0 fits in
    record {
      fits = record {
        rows_fit = tt;
        run_fits = (fit_refuted s more ends.row ends.ends).1 (parts.0, record { each = λ k i h l. let a = among i l in subst (λ r. AppendedFits s r (position s k)) (sym a.2) (parts.1.each k a.0 h a.1) });
      };
      no_point = λ p. none (p.0, record { size = p.1.size; meets = (All-split (MeetsRow p.0) s.rows more p.1.meets).0 });
    }

-- Directions that are kept.
use Rattle.std.proofs.Common.{◌≡◌, ◌∙◌, ℕ, ◌<◌, List, length, get_or, refl, sym, ap, subst, Option, Some, None, arith}
use Rattle.std.proofs.lemmas.List.Elements.{All-append, All-cons, All-nil}
use Rattle.std.proofs.Math.Seq.{get_or-append_seam}
use Rattle.std.proofs.lemmas.List.{length-append}
use Rattle.std.proofs.lemmas.Option.{slice_get-get_or, slice_get_within, get_or_from_slice_get}
use Rattle.std.specs.Prelude.{[], ◌∷◌, ◌++◌, All, MatchOption}
use Rattle.mpc_rows.specs.declared.programs.Qp.{Qp}
use Rattle.mpc_online.specs.declared.prepared.Direction.{Direction}
use Rattle.mpc_online.specs.declared.prepared.KeptDirection.{KeptDirection}
use Rattle.mpc_rows.specs.SetRuns.{law_matrix}
use Rattle.mpc_online.specs.Positions.{right_matrix, step_side}
use Rattle.mpc_online.specs.Widths.{EliminationFits}
use Rattle.mpc_online.specs.Shared.{IsDirectionOf, IsKeptDirection, IsKeptAt}

-- one more is kept
pub kept_too : (qp : Qp) (ds : List KeptDirection) (d : KeptDirection) → All (IsKeptDirection qp) ds → IsKeptDirection qp d → All (IsKeptDirection qp) (ds ++ d ∷ [])
kept_too qp ds d h i = All-append (IsKeptDirection qp) ds (d ∷ []) h (All-cons (IsKeptDirection qp) d [] i (All-nil (IsKeptDirection qp)))

pub kept_last : (ds : List KeptDirection) (d : KeptDirection) → IsKeptAt d.set d.row (ds ++ d ∷ []) (length ds)
kept_last ds d = record {
  there = d;
  stands = slice_get-get_or (ds ++ d ∷ []) (length ds) d (let l = length-append ds (d ∷ []) in omega (arith, l)) ∙ ap Some (get_or-append_seam ds d [] d);
  set_is = refl;
  row_is = refl;
}

-- ---- what is read in a place
pub kept_within : (s : List ℕ) (r : ℕ) (ds : List KeptDirection) (k : ℕ) → IsKeptAt s r ds k → k < length ds
kept_within s r ds k h = slice_get_within ds k h.there h.stands

kept_read : (s : List ℕ) (r : ℕ) (ds : List KeptDirection) (k : ℕ) (d : KeptDirection) → IsKeptAt s r ds k → d ≡ get_or ds k d → (d.set ≡ s) × (d.row ≡ r)
kept_read s r ds k d h e =
    let same : h.there ≡ d = sym (get_or_from_slice_get ds k h.there d h.stands) ∙ sym e in
    (ap (λ (x : KeptDirection). x.set) (sym same) ∙ h.set_is, ap (λ (x : KeptDirection). x.row) (sym same) ∙ h.row_is)

-- it is that of the members and the row
kept_direction : (qp : Qp) (ds : List KeptDirection) (s : List ℕ) (r k : ℕ) (d : KeptDirection) → All (IsKeptDirection qp) ds → IsKeptAt s r ds k → d ≡ get_or ds k d
    → MatchOption d.direction (¬ EliminationFits (law_matrix qp s) (right_matrix qp s (step_side qp r))) (IsDirectionOf qp s r)
kept_direction qp ds s r k d all h e =
    let Q : List ℕ → ℕ → Type 0 = λ t q. MatchOption d.direction (¬ EliminationFits (law_matrix qp t) (right_matrix qp t (step_side qp q))) (IsDirectionOf qp t q) in
    let is : IsKeptDirection qp d = subst (IsKeptDirection qp) (sym e) (all k d (kept_within s r ds k h)) in
    let same = kept_read s r ds k d h e in
    subst (λ t. Q t r) same.0 (subst (Q d.set) same.1 is)

pub found_there : (qp : Qp) (ds : List KeptDirection) (s : List ℕ) (r k : ℕ) (d : KeptDirection) (x : Direction) → All (IsKeptDirection qp) ds → IsKeptAt s r ds k → d ≡ get_or ds k d → d.direction ≡ Some x → IsDirectionOf qp s r x
found_there qp ds s r k d x all h e f = subst (λ (o : Option Direction). MatchOption o (¬ EliminationFits (law_matrix qp s) (right_matrix qp s (step_side qp r))) (IsDirectionOf qp s r)) f (kept_direction qp ds s r k d all h e)

pub wide_there : (qp : Qp) (ds : List KeptDirection) (s : List ℕ) (r k : ℕ) (d : KeptDirection) → All (IsKeptDirection qp) ds → IsKeptAt s r ds k → d ≡ get_or ds k d → d.direction ≡ None → ¬ EliminationFits (law_matrix qp s) (right_matrix qp s (step_side qp r))
wide_there qp ds s r k d all h e f = subst (λ (o : Option Direction). MatchOption o (¬ EliminationFits (law_matrix qp s) (right_matrix qp s (step_side qp r))) (IsDirectionOf qp s r)) f (kept_direction qp ds s r k d all h e)

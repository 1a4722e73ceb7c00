-- The rows of the laws, law by law.
use Rattle.std.proofs.Common.{◌≡◌, ℕ, ◌+◌, ◌<◌, List, [], ◌∷◌, ◌++◌, length, get_or, refl, sym, ◌∙◌, ap, subst, arith, All, ⊎_elim, Some, slice_get, Result, Ok, Err, IfOk}
use Rattle.std.proofs.lemmas.Bool.{cases_eq}
use Rattle.std.proofs.lemmas.List.{get_or_append_left, length-append}
use Rattle.std.proofs.lemmas.Option.{slice_get_within, slice_get-get_or, get_or_from_slice_get}
use Rattle.std.proofs.Math.Seq.{get_or-append_seam}
use Rattle.mpc_linear.specs.declared.integers.RowInt.{RowInt}
use Rattle.mpc_rows.specs.declared.programs.Qp.{Qp}
use Rattle.mpc_rows.specs.declared.laws.Law.{Law}
use Rattle.mpc_tree.specs.Borders.{IsBorder}
use Rattle.mpc_tree.proofs.NodeLemmas.{same_at}

-- a list that has the rows of a law
pub border_made : {E : Type 0} (qp : Qp) (law : Law) (rows : List RowInt) → IsBorder qp law rows → (made : Result (List RowInt) E) → IfOk made (λ border. border ≡ rows) → IfOk made (IsBorder qp law)
border_made qp law rows b (Ok border) e = subst (IsBorder qp law) (sym e) b
border_made qp law rows b (Err x) e = e

-- the borders of the first laws
pub record AreFirstBorders (qp : Qp) (laws : List Law) (upto : ℕ) (borders : List (List RowInt)) : Type 0 where
  pub one_each : length borders ≡ upto
  pub each : (k : ℕ) (law : Law) (rows : List RowInt) → slice_get laws k ≡ Some law → slice_get borders k ≡ Some rows → IsBorder qp law rows

pub borders_none : (qp : Qp) (laws : List Law) → AreFirstBorders qp laws 0 []
borders_none qp laws = record { one_each = refl; each = λ k law rows h is. absurd (none k rows is) }
  where
    none : (k : ℕ) (rows : List RowInt) → slice_get [] k ≡ Some rows → ⊥
    none k rows is = let inside : k < 0 = slice_get_within [] k rows is in omega arith

pub borders_more : (qp : Qp) (laws : List Law) (i : ℕ) (borders new : List (List RowInt)) (law : Law) (rows : List RowInt) → AreFirstBorders qp laws i borders → slice_get laws i ≡ Some law → IsBorder qp law rows → new ≡ borders ++ rows ∷ [] → AreFirstBorders qp laws (i + 1) new
borders_more qp laws i borders new law rows before is border e = subst (AreFirstBorders qp laws (i + 1)) (sym e) (record {
  one_each = length-append borders (rows ∷ []) ∙ ap (λ n. n + 1) before.one_each;
  each = λ k other others h at. ⊎_elim
      (λ p. subst (λ l. IsBorder qp l others) (same_at laws i k law other (sym p) is h) (subst (IsBorder qp law) (last k others p at) border))
      (λ p. before.each k other others h (earlier k others p at))
      (cases_eq k i);
})
  where
    last : (k : ℕ) (others : List RowInt) → k ≡ i → slice_get (borders ++ rows ∷ []) k ≡ Some others → rows ≡ others
    last k others p at =
        let seat : k ≡ length borders = p ∙ sym before.one_each in
        sym (get_or-append_seam borders rows [] rows) ∙ ap (λ j. get_or (borders ++ rows ∷ []) j rows) (sym seat) ∙ get_or_from_slice_get (borders ++ rows ∷ []) k others rows at

    earlier : (k : ℕ) (others : List RowInt) → (k ≡ i → ⊥) → slice_get (borders ++ rows ∷ []) k ≡ Some others → slice_get borders k ≡ Some others
    earlier k others p at =
        let inside : k < length (borders ++ rows ∷ []) = slice_get_within (borders ++ rows ∷ []) k others at in
        let within : k < length borders = omega (arith, length-append borders (rows ∷ []), before.one_each) in
        slice_get-get_or borders k others within ∙ ap Some (sym (get_or_append_left borders (rows ∷ []) others k within) ∙ get_or_from_slice_get (borders ++ rows ∷ []) k others others at)

pub at_law : (P : Law → Type 0) (laws : List Law) (i : ℕ) (law : Law) → All P laws → slice_get laws i ≡ Some law → P law
at_law P laws i law h is = subst P (get_or_from_slice_get laws i law law is) (h i law (slice_get_within laws i law is))

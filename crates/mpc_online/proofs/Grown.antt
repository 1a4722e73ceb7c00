-- A list to whose entries multiples are added one after another.
use Rattle.std.proofs.Common.{◌≡◌, ℕ, ◌+◌, ◌<◌, ◌≤◌, List, length, set, pos, refl, sym, ◌∙◌, ap, subst, arith, ⊎_elim}
use Rattle.std.proofs.lemmas.Bool.{cases_eq}
use Rattle.std.proofs.lemmas.List.{length-set, get_or-set_same, get_or-set_other}
use Rattle.mpc_exact.specs.Rational.{ℚ, int, ◌+ℚ◌, ◌*ℚ◌}
use Rattle.mpc_space.specs.Vector.{coordinate, vec_add, vec_scale}
use Rattle.mpc_space.proofs.Entries.{coordinate-add, coordinate-scale, length-add, length-scale, same_entries}
use Rattle.mpc_linear.specs.Dot.{TermFits}

-- the first i entries have grown, and the numbers of these sums fit
pub record IsGrowing (old : List ℚ) (s : ℚ) (d : List ℚ) (i : ℕ) (new : List ℚ) : Type 0 where
  pub size : length new ≡ length old
  pub grown : (k : ℕ) → k < i → coordinate new k ≡ coordinate old k +ℚ s *ℚ coordinate d k
  pub ahead : (k : ℕ) → i ≤ k → coordinate new k ≡ coordinate old k
  pub fits : (k : ℕ) → k < i → TermFits (coordinate old k) s (coordinate d k)

pub growing_none : (old : List ℚ) (s : ℚ) (d : List ℚ) → IsGrowing old s d 0 old
growing_none old s d = record { size = refl; grown = λ k h. absurd (omega arith); ahead = λ k h. refl; fits = λ k h. absurd (omega arith) }

pub growing_more : (old : List ℚ) (s : ℚ) (d : List ℚ) (i : ℕ) (new : List ℚ) (x y v : ℚ) → i < length new → x ≡ coordinate new i → y ≡ coordinate d i → v ≡ x +ℚ s *ℚ y → TermFits x s y → IsGrowing old s d i new → IsGrowing old s d (i + 1) (set new i v)
growing_more old s d i new x y v l ex ey ev f h = record {
  size = length-set new i v ∙ h.size;
  grown = λ k m. ⊎_elim
      (λ q. ap (coordinate (set new i v)) q ∙ get_or-set_same new i v (int (pos 0)) l ∙ value ∙ ap (λ j. coordinate old j +ℚ s *ℚ coordinate d j) (sym q))
      (λ q. get_or-set_other new i k v (int (pos 0)) q ∙ h.grown k (omega arith))
      (cases_eq k i);
  ahead = λ k m. get_or-set_other new i k v (int (pos 0)) (λ q. omega arith) ∙ h.ahead k (omega arith);
  fits = λ k m. ⊎_elim (λ q. subst (λ j. TermFits (coordinate old j) s (coordinate d j)) (sym q) here) (λ q. h.fits k (omega arith)) (cases_eq k i);
}
  where
    old_entry : x ≡ coordinate old i
    old_entry = ex ∙ h.ahead i (omega arith)

    value : v ≡ coordinate old i +ℚ s *ℚ coordinate d i
    value = ev ∙ (λ t. old_entry t +ℚ s *ℚ ey t)

    here : TermFits (coordinate old i) s (coordinate d i)
    here = subst (λ z. TermFits (coordinate old i) s z) ey (subst (λ z. TermFits z s y) old_entry f)

-- where the numbers of one of the sums don't fit
pub growing_wide : (old : List ℚ) (s : ℚ) (d : List ℚ) (i : ℕ) (new : List ℚ) (x y : ℚ) → i < length new → x ≡ coordinate new i → y ≡ coordinate d i → ¬ TermFits x s y → IsGrowing old s d i new → ¬ ((k : ℕ) → k < length old → TermFits (coordinate old k) s (coordinate d k))
growing_wide old s d i new x y l ex ey f h all =
    f (subst (λ z. TermFits x s z) (sym ey) (subst (λ z. TermFits z s (coordinate d i)) (sym (ex ∙ h.ahead i (omega arith))) (all i (omega (arith, h.size)))))

pub growing_all : (old : List ℚ) (s : ℚ) (d : List ℚ) (i : ℕ) (new : List ℚ) → length d ≡ length old → length new ≤ i → IsGrowing old s d i new → new ≡ vec_add old (vec_scale s d)
growing_all old s d i new e l h =
    let size : length (vec_add old (vec_scale s d)) ≡ length old = length-add old (vec_scale s d) (sym (length-scale s d ∙ e)) in
    same_entries new (vec_add old (vec_scale s d)) (h.size ∙ sym size)
    (λ k m. h.grown k (omega arith) ∙ sym (coordinate-add old (vec_scale s d) k ∙ ap (λ u. coordinate old k +ℚ u) (coordinate-scale s d k)))

pub growing_fits : (old : List ℚ) (s : ℚ) (d : List ℚ) (i : ℕ) (new : List ℚ) → length new ≤ i → IsGrowing old s d i new → (k : ℕ) → k < length old → TermFits (coordinate old k) s (coordinate d k)
growing_fits old s d i new l h k m = h.fits k (omega (arith, h.size))

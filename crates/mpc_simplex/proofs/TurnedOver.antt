-- One over a fraction, by its parts turned over.
use Rattle.std.proofs.Common.{◌≡◌, ◌≢◌, Bool, true, false, [], ◌∷◌, ℤ, pos, IsTrue, ◌↔◌, Result, Err, refl, sym, ◌∙◌, ap, subst}
use Rattle.std.proofs.lemmas.Bool.{both_ways, and_parts, and_from}
use Rattle.mpc_exact.specs.Rational.{quotient, ℚ, int, frac_self, ◌*ℚ◌, ◌/ℚ◌, inv_ℚ, le_ℚ, denom_positive}
use Rattle.mpc_exact.proofs.Rational.{numer_zero, *ℚ_inv}
use Rattle.mpc_exact.proofs.RationalRing.{reads, by_ring}
use Rattle.mpc_exact.proofs.RationalOrder.{≤ℚ_antisymm, <ℚ_irrefl}
use Rattle.mpc_exact.proofs.OrderTheorems.{inv_unique, le_ℚ-true, le_ℚ-false}
use Rattle.mpc_exact.proofs.School.{frac_times, int_not_zero}
use Rattle.mpc_frac.specs.Fits.{FitsFrac}
use Rattle.mpc_frac.specs.declared.FracError.{FracError}
use Rattle.mpc_frac.specs.declared.FracError.TheVariants.{ZeroDenominator, Wide}
use Rattle.mpc_frac.specs.FitTheorems.{FitTheorems}
use Rattle.mpc_rows.specs.Run.{is_zero}

module _ (x : ℚ) (some : x ≢ int (pos 0)) where
  numer_some : x.numer ≢ pos 0
  numer_some e = some (numer_zero x e)

  whole : int (pos x.denom) *ℚ x ≡ int x.numer
  whole = subst (λ z. int (pos x.denom) *ℚ z ≡ int x.numer) (frac_self x) (frac_times x.numer x.denom (denom_positive x))

  pub turned_is : quotient (pos x.denom) x.numer ≡ inv_ℚ x
  unfolding quotient
  turned_is = inv_unique x (int (pos x.denom) /ℚ int x.numer)
      (regroup x (int (pos x.denom)) (int x.numer) (inv_ℚ (int x.numer)) whole (*ℚ_inv (int x.numer) (int_not_zero x.numer numer_some)))
    where
      regroup : (x d n i : ℚ) → d *ℚ x ≡ n → n *ℚ i ≡ int (pos 1) → x *ℚ (d *ℚ i) ≡ int (pos 1)
      regroup x d n i e f = by_ring (x ∷ d ∷ i ∷ []) (search reads depth 30) (search reads depth 30) tt ∙ ap (λ u. u *ℚ i) e ∙ f

  pub turned_fits : FitTheorems → FitsFrac x → FitsFrac (quotient (pos x.denom) x.numer)
  turned_fits theorems h = subst (λ (z : ℚ). FitsFrac z) (sym turned_is) (theorems.inverse x some h)

  module _ (n d : ℤ) (en : n ≡ x.numer) (ed : d ≡ pos x.denom) where
    pub made_is : quotient d n ≡ inv_ℚ x
    made_is = (λ i. quotient (ed i) (en i)) ∙ turned_is

    -- so neither error comes
    pub made_always : FitTheorems → FitsFrac x → (r : Result ℚ FracError) → ((r ≡ Err ZeroDenominator) ↔ (n ≡ pos 0)) → ((r ≡ Err Wide) ↔ ((n ≢ pos 0) × (¬ FitsFrac (quotient d n)))) → (e : FracError) → r ≡ Err e → ⊥
    made_always theorems h r zero wide ZeroDenominator e = numer_some (sym en ∙ zero.0 e)
    made_always theorems h r zero wide Wide e = (wide.0 e).1 (subst (λ (z : ℚ). FitsFrac z) (sym (λ i. quotient (ed i) (en i))) (turned_fits theorems h))

-- whether a number is 0
both_zero : (x : ℚ) → x ≡ int (pos 0) → is_zero x ≡ true
both_zero x e = ap is_zero e ∙ zero_passes
  where
    at : (b : Bool) → (le_ℚ (int (pos 0)) (int (pos 0)) ≡ b) → b ≡ true
    at true e = refl
    at false e = absurd (<ℚ_irrefl (le_ℚ-false {x = int (pos 0)} {y = int (pos 0)} e))

    zero_passes : is_zero (int (pos 0)) ≡ true
    zero_passes = let e : le_ℚ (int (pos 0)) (int (pos 0)) ≡ true = at (le_ℚ (int (pos 0)) (int (pos 0))) refl in and_from _ _ e e

zero_of : (x : ℚ) → is_zero x ≡ true → x ≡ int (pos 0)
zero_of x h = let p = and_parts (le_ℚ x (int (pos 0))) (le_ℚ (int (pos 0)) x) h in ≤ℚ_antisymm (le_ℚ-true p.0) (le_ℚ-true p.1)

pub zero_test : (b : Bool) (x : ℚ) → IsTrue b ↔ (x ≡ int (pos 0)) → b ≡ is_zero x
zero_test true x h = sym (both_zero x (h.0 refl))
zero_test false x h = by (is_zero x) refl
  where
    by : (c : Bool) → is_zero x ≡ c → false ≡ c
    by false e = refl
    by true e = absurd (both_ways false refl (h.1 (zero_of x e)))

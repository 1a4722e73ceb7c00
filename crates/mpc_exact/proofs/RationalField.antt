-- More laws of the fractions: decided equality, cancelling, products that are zero, absolute values, and the order as a test.
use Rattle.std.proofs.Common.{◌≡◌, ◌≢◌, ℕ, suc, ◌<◌, [], ◌∷◌, T, ℤ, pos, negsuc, unsigned_abs, ◌⊎◌, inl, inr, ⊎_elim, ◌↔◌, refl, sym, ◌∙◌, ap, subst, arith}
use Rattle.std.proofs.Math.IntN.{ℤ_discrete}
use Rattle.std.proofs.lemmas.Int.{ints}
use native.Mathlib.Decide.{ℕ_discrete}
use mathlib.Core.HLevel.{Discrete}
use Rattle.mpc_exact.specs.Rational.{ℚ, frac, int, ◌-ℚ◌, ◌*ℚ◌, neg_ℚ, inv_ℚ, abs_ℚ, ◌≤ℚ◌, ◌<ℚ◌, le_ℚ, lt_ℚ, same_parts, denom_positive, frac_self}
use Rattle.mpc_exact.proofs.Rational.{*ℚ_inv, frac-neg}
use Rattle.mpc_exact.proofs.RationalRing.{reads, by_ring, by_equations}
use Rattle.mpc_exact.proofs.RationalOrder.{IsNonneg, nonneg_frac}

pub ℚ_discrete : Discrete ℚ
ℚ_discrete x y = by (ℤ_discrete x.numer y.numer) (ℕ_discrete x.denom y.denom)
  where
    by : Dec (x.numer ≡ y.numer) → Dec (x.denom ≡ y.denom) → Dec (x ≡ y)
    by (yes p) (yes q) = yes (same_parts x y p q)
    by (yes p) (no q) = no (λ e. q (ap (λ (z : ℚ). z.denom) e))
    by (no p) q = no (λ e. p (ap (λ (z : ℚ). z.numer) e))

-- the order's tests
pub le_ℚ_is : (x y : ℚ) → T (le_ℚ x y) ↔ (x ≤ℚ y)
le_ℚ_is x y = (λ t. record { at_most = record { le = t } }, λ h. h.at_most.le)

pub lt_ℚ_is : (x y : ℚ) → T (lt_ℚ x y) ↔ (x <ℚ y)
lt_ℚ_is x y = (λ t. record { below = record { lt = t } }, λ h. h.below.lt)

pub *ℚ_cancel : {x y z : ℚ} → x ≢ int (pos 0) → x *ℚ y ≡ x *ℚ z → y ≡ z
*ℚ_cancel {x} {y} {z} h e = by_equations (z -ℚ y) (inv_ℚ x) (*ℚ_inv x h) e (by_ring (x ∷ y ∷ z ∷ inv_ℚ x ∷ []) (search reads depth 30) (search reads depth 30) tt)

pub product_zero : (x y : ℚ) → x *ℚ y ≡ int (pos 0) → (x ≡ int (pos 0)) ⊎ (y ≡ int (pos 0))
product_zero x y e = by (ℚ_discrete x (int (pos 0)))
  where
    by : Dec (x ≡ int (pos 0)) → (x ≡ int (pos 0)) ⊎ (y ≡ int (pos 0))
    by (yes p) = inl p
    by (no p) = inr (*ℚ_cancel p (e ∙ by_ring (x ∷ []) (search reads depth 30) (search reads depth 30) tt))

abs_parts : (n : ℤ) (d : ℕ) → 0 < d → ((frac (pos (unsigned_abs n)) d ≡ frac n d) × IsNonneg (frac n d)) ⊎ ((frac (pos (unsigned_abs n)) d ≡ neg_ℚ (frac n d)) × IsNonneg (neg_ℚ (frac n d)))
abs_parts (pos n) d p = inl (refl, nonneg_frac (pos n) d p (omega (arith, ints)))
abs_parts (negsuc n) d p = inr (sym (frac-neg (negsuc n) d p), subst IsNonneg (sym (frac-neg (negsuc n) d p)) (nonneg_frac (pos (suc n)) d p (omega (arith, ints))))

-- |x| is x or -x, whichever is not negative
pub abs_cases : (x : ℚ) → ((abs_ℚ x ≡ x) × IsNonneg x) ⊎ ((abs_ℚ x ≡ neg_ℚ x) × IsNonneg (neg_ℚ x))
unfolding abs_ℚ
abs_cases x = subst (λ z. ((frac (pos (unsigned_abs x.numer)) x.denom ≡ z) × IsNonneg z) ⊎ ((frac (pos (unsigned_abs x.numer)) x.denom ≡ neg_ℚ z) × IsNonneg (neg_ℚ z))) (frac_self x) (abs_parts x.numer x.denom (denom_positive x))

pub abs_nonneg : (x : ℚ) → IsNonneg (abs_ℚ x)
abs_nonneg x = ⊎_elim (λ h. subst IsNonneg (sym h.0) h.1) (λ h. subst IsNonneg (sym h.0) h.1) (abs_cases x)

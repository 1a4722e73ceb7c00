-- Whole numbers as quotients.
use Rattle.std.proofs.Common.{◌≡◌, ◌≢◌, ℤ, pos, ◌↔◌, Result, Ok, Err, IsOk, refl, ◌∙◌, ap}
use Rattle.mpc_exact.specs.Rational.{ℚ, int, quotient, ◌*ℚ◌}
use Rattle.mpc_exact.proofs.Rational.{*ℚ_one}
use Rattle.mpc_exact.proofs.OrderTheorems.{inv_one}
use Rattle.mpc_frac.specs.Fits.{FitsFrac}
use Rattle.mpc_frac.specs.declared.FracError.{FracError}
use Rattle.mpc_frac.specs.declared.FracError.TheVariants.{ZeroDenominator, Wide}

pub over_one : (m : ℤ) → quotient m (pos 1) ≡ int m
unfolding quotient
over_one m = ap (λ u. int m *ℚ u) inv_one ∙ *ℚ_one (int m)

pub made : (r : Result ℚ FracError) (m n : ℤ) → (r ≡ Err ZeroDenominator) ↔ (n ≡ pos 0) → (r ≡ Err Wide) ↔ ((n ≢ pos 0) × (¬ FitsFrac (quotient m n))) → n ≢ pos 0 → FitsFrac (quotient m n) → IsOk r
made (Ok x) m n h k some fits = refl
made (Err ZeroDenominator) m n h k some fits = absurd (some (h.0 refl))
made (Err Wide) m n h k some fits = absurd ((k.0 refl).1 fits)

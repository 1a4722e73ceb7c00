-- Theorems of fractions over a common denominator.
use Rattle.std.specs.Prelude.{◌≡◌, ℕ, ◌+◌, ◌*◌, ◌^◌, ◌<◌, ℤ, ◌+ℤ◌, ◌*ℤ◌, unsigned_abs}
use Rattle.mpc_exact.specs.Rational.{frac, ◌+ℚ◌, ◌*ℚ◌}
use Rattle.mpc_frac.specs.Fits.{FitsFrac, FitsSum}
use Rattle.mpc_linear.specs.Dot.{TermFits}

pub record OverTheorems : Type 0 where
  -- a sum with one product more
  pub next : (total a b : ℤ) (d e : ℕ) → 0 < d → 0 < e → frac (total +ℤ (a *ℤ b)) (d * e) ≡ frac total (d * e) +ℚ frac a d *ℚ frac b e
  -- it fits where the sizes of its parts and the denominator are small
  pub fits : (total a b : ℤ) (d e : ℕ) → 0 < d → 0 < e → d * e < 2 ^ 127 → unsigned_abs total + unsigned_abs (a *ℤ b) < 2 ^ 127 → TermFits (frac total (d * e)) (frac a d) (frac b e)
  -- a fraction fits where its parts are small
  pub one : (a : ℤ) (d : ℕ) → 0 < d → unsigned_abs a < 2 ^ 127 → d < 2 ^ 127 → FitsFrac (frac a d)
  -- and a sum of two over one denominator, where the sum of their sizes is
  pub both : (a b : ℤ) (d : ℕ) → 0 < d → unsigned_abs a + unsigned_abs b < 2 ^ 127 → d < 2 ^ 127 → FitsSum (frac a d) (frac b d)
  -- which is the fraction of the sum of the numerators
  pub sum : (a b : ℤ) (d : ℕ) → 0 < d → frac a d +ℚ frac b d ≡ frac (a +ℤ b) d

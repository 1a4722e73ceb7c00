-- Which numbers fit a `Frac` because others do.
use Rattle.std.specs.Prelude.{◌≢◌, ◌^◌, ◌<◌, ℤ, pos, unsigned_abs}
use Rattle.mpc_exact.specs.Rational.{ℚ, int, quotient, ◌+ℚ◌, neg_ℚ, inv_ℚ}
use Rattle.mpc_frac.specs.Fits.{FitsFrac, FitsSum}

pub record FitTheorems : Type 0 where
  -- a whole number below 2^127 in size, and a quotient of two such numbers
  pub whole : (n : ℤ) → unsigned_abs n < 2 ^ 127 → FitsFrac (int n)
  pub quotient : (m n : ℤ) → n ≢ pos 0 → unsigned_abs m < 2 ^ 127 → unsigned_abs n < 2 ^ 127 → FitsFrac (quotient m n)
  -- the negative of a number that fits, and one over it
  pub negative : (x : ℚ) → FitsFrac x → FitsFrac (neg_ℚ x)
  pub inverse : (x : ℚ) → x ≢ int (pos 0) → FitsFrac x → FitsFrac (inv_ℚ x)
  -- a sum fits where all numbers on the way to it do, as with 0
  pub sum : (x y : ℚ) → FitsSum x y → FitsFrac (x +ℚ y)
  pub before_zero : (x : ℚ) → FitsFrac x → FitsSum x (int (pos 0))
  pub behind_zero : (x : ℚ) → FitsFrac x → FitsSum (int (pos 0)) x

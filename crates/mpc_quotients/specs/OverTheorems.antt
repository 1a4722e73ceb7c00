-- Theorems of whole numbers over one denominator.
use Rattle.std.specs.Prelude.{◌≡◌, ◌≢◌, ℕ, ◌+◌, ◌<◌, ◌^◌, ℤ, pos, ◌+ℤ◌, unsigned_abs}
use Rattle.mpc_exact.specs.Rational.{frac, ◌+ℚ◌, ◌*ℚ◌, inv_ℚ}
use Rattle.mpc_frac.specs.Fits.{FitsFrac, FitsSum}
use Rattle.mpc_runs.specs.WholeNumbers.{turned}

pub record OverTheorems : Type 0 where
  -- a number fits where it and the denominator lie below 2^127 in size, and a sum where the sizes together do
  pub fits : (a : ℤ) (m : ℕ) → 0 < m → unsigned_abs a < 2 ^ 127 → m < 2 ^ 127 → FitsFrac (frac a m)
  pub sum_fits : (a c : ℤ) (m : ℕ) → 0 < m → unsigned_abs a + unsigned_abs c < 2 ^ 127 → m < 2 ^ 127 → FitsSum (frac a m) (frac c m)
  pub sum : (a c : ℤ) (m : ℕ) → 0 < m → frac a m +ℚ frac c m ≡ frac (a +ℤ c) m
  -- the quotient of two has the size of the second as its denominator
  pub quotient : (a q : ℤ) (m : ℕ) → 0 < m → q ≢ pos 0 → frac a m *ℚ inv_ℚ (frac q m) ≡ frac (turned q a) (unsigned_abs q)

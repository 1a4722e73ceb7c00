-- Systems of whole numbers up to some sizes.
use Rattle.std.specs.Prelude.{◌≡◌, ℕ, ◌<◌, ◌≤◌, ℤ, unsigned_abs}
use Rattle.mpc_exact.specs.Rational.{ℚ, int}
use Rattle.mpc_rows.specs.LinearSystem.{LinearSystem, row_at, height, entry}

-- a whole number of at most this size
pub record IsWholeUpTo (most : ℕ) (x : ℚ) : Type 0 where
  pub z : ℤ
  pub is : x ≡ int z
  pub small : unsigned_abs z ≤ most

-- the coefficients are whole numbers of at most the first size, the right sides of at most the second
pub record HasSmallRows (most_entry most_side : ℕ) (s : LinearSystem) : Type 0 where
  pub entries : (i j : ℕ) → i < height s → j < s.width → IsWholeUpTo most_entry (entry s i j)
  pub sides : (i : ℕ) → i < height s → IsWholeUpTo most_side (row_at s i).b

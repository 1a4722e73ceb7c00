-- Tables read as small whole numbers over one scale.
use Rattle.std.specs.Prelude.{◌≡◌, ℕ, ◌+◌, ◌*◌, ◌<◌, ◌≤◌, ◌^◌, List, length, ℤ, unsigned_abs}
use Rattle.mpc_exact.specs.Rational.{ℚ, frac}
use Rattle.mpc_space.specs.Matrix.{RationalMatrix, entry}
use Rattle.mpc_scaled.specs.Scaled.{whole_at, whole_cell}

-- so many numbers stand behind those of a list: f 0, f 1, .. times the scale
pub record AreBehind (old new : List ℤ) (f : ℕ → ℚ) (count scale : ℕ) : Type 0 where
  pub size : length new ≡ length old + count
  pub kept : (k : ℕ) → k < length old → whole_at new k ≡ whole_at old k
  pub numbers : (j : ℕ) → j < count → f j ≡ frac (whole_at new (length old + j)) scale
  pub small : (j : ℕ) → j < count → unsigned_abs (whole_at new (length old + j)) ≤ 2 ^ 58

-- the numbers of so many of the matrix's rows, row by row
pub record HasNumbers (m : RationalMatrix) (count scale : ℕ) (v : List ℤ) : Type 0 where
  pub size : length v ≡ count * m.columns
  pub numbers : (i j : ℕ) → i < count → j < m.columns → entry m i j ≡ frac (whole_cell m.columns v i j) scale
  pub small : (k : ℕ) → k < length v → unsigned_abs (whole_at v k) ≤ 2 ^ 58

-- What the steps of the elimination do to the matrix that they work on.
use Rattle.std.specs.Prelude.{◌≡◌, ◌≢◌, ℕ, ◌<◌, ◌≤◌, pos}
use Rattle.mpc_exact.specs.Rational.{int, ◌/ℚ◌}
use Rattle.mpc_space.specs.Matrix.{RationalMatrix, height, entry}
use Rattle.mpc_linear.specs.Shape.{HasShape}
use Rattle.mpc_definite.specs.Pivots.{without_column}

-- as many columns as rows
abbrev pub IsSquare : RationalMatrix → Type 0
IsSquare m = HasShape m (height m) (height m)

-- a square matrix of the same size as m
abbrev pub IsLike : RationalMatrix → RationalMatrix → Type 0
IsLike m new = HasShape new (height m) (height m)

-- row i up to the diagonal is that of h, and every other entry is as it was
pub record CopiesRow (h old new : RationalMatrix) (i : ℕ) : Type 0 where
  pub like : IsLike old new
  pub copied : (k : ℕ) → k ≤ i → entry new i k ≡ entry h i k
  pub above : (k : ℕ) → i < k → entry new i k ≡ entry old i k
  pub others : (r k : ℕ) → r ≢ i → entry new r k ≡ entry old r k

-- h on and below the diagonal, 0 above
pub record IsLowerOf (h l : RationalMatrix) : Type 0 where
  pub like : IsLike h l
  pub copied : (i k : ℕ) → i < height h → k ≤ i → entry l i k ≡ entry h i k
  pub above : (i k : ℕ) → i < k → entry l i k ≡ int (pos 0)

-- row i without column j up to the diagonal, with the factor in column j; every other entry is as it was
pub record EliminatesRow (old new : RationalMatrix) (j i : ℕ) : Type 0 where
  pub like : IsLike old new
  pub factor : entry new i j ≡ entry old i j /ℚ entry old j j
  pub rest : (k : ℕ) → j < k → k ≤ i → entry new i k ≡ without_column (entry old) j i k
  pub before : (k : ℕ) → k < j → entry new i k ≡ entry old i k
  pub above : (k : ℕ) → i < k → entry new i k ≡ entry old i k
  pub others : (r k : ℕ) → r ≢ i → entry new r k ≡ entry old r k

-- so for each row below row j
pub record EliminatesColumn (old new : RationalMatrix) (j : ℕ) : Type 0 where
  pub like : IsLike old new
  pub factor : (i : ℕ) → j < i → i < height old → entry new i j ≡ entry old i j /ℚ entry old j j
  pub rest : (i k : ℕ) → j < k → k ≤ i → i < height old → entry new i k ≡ without_column (entry old) j i k
  pub before : (i k : ℕ) → k < j → entry new i k ≡ entry old i k
  pub above : (i k : ℕ) → i < k → entry new i k ≡ entry old i k
  pub others : (i k : ℕ) → i ≤ j → entry new i k ≡ entry old i k

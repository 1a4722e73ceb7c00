-- Matrices that are filled entry by entry.
use Rattle.std.specs.Prelude.{◌≡◌, ◌≢◌, ℕ, ◌<◌}
use Rattle.mpc_exact.specs.Rational.{ℚ}
use Rattle.mpc_space.specs.Matrix.{RationalMatrix, height, IsRectangular, entry}
use Rattle.mpc_linear.specs.Shape.{HasShape}

-- of each entry of row i holds P, by its column, and the other rows are as they were
pub record FillsRow (P : ℕ → ℚ → Type 0) (old new : RationalMatrix) (i : ℕ) : Type 0 where
  pub height_is : height new ≡ height old
  pub columns_is : new.columns ≡ old.columns
  pub rectangular : IsRectangular new
  pub row : (j : ℕ) → j < old.columns → P j (entry new i j)
  pub others : (r j : ℕ) → r ≢ i → entry new r j ≡ entry old r j

-- so for so many rows and columns
pub record FillsTable (P : ℕ → ℕ → ℚ → Type 0) (rows columns : ℕ) (m : RationalMatrix) : Type 0 where
  pub shape : HasShape m rows columns
  pub entries : (i j : ℕ) → i < rows → j < columns → P i j (entry m i j)

-- The shape of a matrix.
use Rattle.std.specs.Prelude.{◌≡◌, ℕ}
use Rattle.mpc_space.specs.Matrix.{RationalMatrix, height, IsRectangular}

-- a matrix of so many rows and columns
pub record HasShape (m : RationalMatrix) (rows columns : ℕ) : Type 0 where
  pub rows_are : height m ≡ rows
  pub columns_are : m.columns ≡ columns
  pub rectangular : IsRectangular m

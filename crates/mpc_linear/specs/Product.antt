-- Which numbers of a product of matrices must fit.
use Rattle.std.specs.Prelude.{◌≡◌, ℕ, ◌+◌, ◌<◌, List, [], slice_index_or}
use Rattle.mpc_exact.specs.Rational.{ℚ}
use Rattle.mpc_space.specs.Vector.{column, dot, listed}
use Rattle.mpc_space.specs.Matrix.{RationalMatrix, height}
use Rattle.mpc_linear.specs.Dot.{DotFits}

-- the dots of a row with the columns of b
abbrev pub product_row : RationalMatrix → List ℚ → List ℚ
product_row b row = listed b.columns (λ j. dot row (column b.rows j))

-- each of them fits
abbrev pub DotsFit : RationalMatrix → List ℚ → Type 0
DotsFit b row = (j : ℕ) → j < b.columns → DotFits row (column b.rows j)

-- so it is for row i of a
abbrev pub RowFits : RationalMatrix → RationalMatrix → ℕ → Type 0
RowFits a b i = DotsFit b (slice_index_or a.rows i [])

abbrev pub ProductFits : RationalMatrix → RationalMatrix → Type 0
ProductFits a b = (i : ℕ) → i < height a → RowFits a b i

-- row is the number, from 1, of the first row of the product with a dot that doesn't fit
pub record IsFirstWide (a b : RationalMatrix) (row : ℕ) : Type 0 where
  pub index : ℕ
  pub named : row ≡ index + 1
  pub below : index < height a
  pub before : (i : ℕ) → i < index → RowFits a b i
  pub wide : ¬ RowFits a b index

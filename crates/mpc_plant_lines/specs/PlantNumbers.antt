-- What the numbers of a plant's lines are: the sizes, the entries of a matrix row by row, and the targets of the state and of the input.
use Rattle.std.specs.Prelude.{◌≡◌, ℕ, ◌*◌, ◌<◌, ◌≤◌, List, [], ◌∷◌, ◌++◌, ℤ, pos, take, drop}
use Rattle.mpc_exact.specs.Rational.{ℚ}
use Rattle.mpc_space.specs.Vector.{zeros, cell}
use Rattle.mpc_space.specs.Matrix.{RationalMatrix}
use Rattle.mpc_linear.specs.Grid.{grid}
use Rattle.mpc_plant.specs.Limits.{IsFromTo}
use Rattle.mpc_grammar.specs.declared.plant_parts.Sizes.{Sizes}

-- the whole number is this one, within its limits
pub record IsBetween (low high : ℕ) (z : ℤ) (k : ℕ) : Type 0 where
  pub number : z ≡ pos k
  pub limits : IsFromTo low high k

-- the whole numbers are these sizes, within their limits
pub record AreSizeNumbers (zs : List ℤ) (s : Sizes) : Type 0 where
  pub numbers : zs ≡ pos s.states ∷ pos s.inputs ∷ pos s.steps ∷ []
  pub states : IsFromTo 1 4 s.states
  pub inputs : IsFromTo 1 3 s.inputs
  pub steps : IsFromTo 1 6 s.steps
  pub moves_few : s.inputs * s.steps ≤ 6

-- the matrix whose first entries, row by row, are the first of these, and whose others are 0
abbrev pub filled : ℕ → ℕ → ℕ → List ℚ → RationalMatrix
filled rows columns count entries = grid rows columns (take count entries ++ drop count (zeros (rows * columns)))

-- row i is column i, as far as the diagonal
pub record IsMirroredRow (m : RationalMatrix) (i : ℕ) : Type 0 where
  pub mirrored : (j : ℕ) → j < i → cell m.rows i j ≡ cell m.rows j i

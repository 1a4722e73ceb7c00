-- Which rows and coordinates numbers state.
use Rattle.std.specs.Prelude.{◌≡◌, ℕ, ◌≤◌, List, [], ◌∷◌, ◌++◌, pos}
use Rattle.mpc_exact.specs.Rational.{ℚ}
use Rattle.mpc_plant.specs.Limits.{FitsRow, IsCoordinate, greatest_count}
use Rattle.mpc_plant.specs.declared.lists.PlantRow.{PlantRow}
use Rattle.mpc_plant.specs.declared.lists.Coordinate.{Coordinate}

-- the numbers are the coefficients of the state, those of the move, and the bound
pub record StatesRow (states inputs : ℕ) (numbers : List ℚ) (row : PlantRow) : Type 0 where
  pub numbers_are : numbers ≡ row.x ++ row.u ++ row.max ∷ []
  pub sizes : FitsRow states inputs row

-- the fraction is a number of steps that a coordinate may have
pub record IsStepCount (x : ℚ) (count : ℕ) : Type 0 where
  pub numer : x.numer ≡ pos count
  pub denom : x.denom ≡ 1
  pub small : count ≤ greatest_count

-- the numbers are the least value of the coordinate, its step, and how many steps it has
pub record StatesAxis (numbers : List ℚ) (axis : Coordinate) : Type 0 where
  pub last : ℚ
  pub numbers_are : numbers ≡ axis.low ∷ axis.step ∷ last ∷ []
  pub count_is : IsStepCount last axis.count
  pub allowed : IsCoordinate axis

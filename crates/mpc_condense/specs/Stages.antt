-- What the code holds at each stage of condensing.
use Rattle.std.specs.Prelude.{◌≡◌, ℕ, ◌+◌, ◌*◌, ◌<◌, List, slice_get, Some, ◌⊎◌}
use Rattle.mpc_exact.specs.Rational.{ℚ}
use Rattle.mpc_space.specs.Vector.{mat_vec, quadratic}
use Rattle.mpc_space.specs.Matrix.{RationalMatrix, height, entry}
use Rattle.mpc_plant.specs.declared.lists.PlantRow.{PlantRow}
use Rattle.mpc_plant.specs.declared.plants.Plant.{Plant}
use Rattle.mpc_linear.specs.Shape.{HasShape}
use Rattle.mpc_condense.specs.Condensed.{stage_row, terminal_row}
use Rattle.mpc_condense.specs.Motion.{motion, distance, weighted}
use Rattle.mpc_condense.specs.Blocks.{row_at}

-- the columns of a vector at a step: those of the extended counts are the rows of x, those of the moves the rows of z
pub record HoldsColumns (plant : Plant) (columns : ℕ → List ℚ) (x z : RationalMatrix) : Type 0 where
  pub x_shape : HasShape x (plant.n + 1) plant.n
  pub z_shape : HasShape z (plant.p * plant.horizon) plant.n
  pub x_is : (j : ℕ) → j < plant.n + 1 → row_at x j ≡ columns j
  pub z_is : (j : ℕ) → j < plant.p * plant.horizon → row_at z j ≡ columns (plant.n + 1 + j)

-- the columns of the state at step k
abbrev pub IsMotion : Plant → ℕ → RationalMatrix → RationalMatrix → Type 0
IsMotion plant k x z = HoldsColumns plant (motion plant k) x z

-- those of its distance from the target
abbrev pub IsDistance : Plant → ℕ → RationalMatrix → RationalMatrix → Type 0
IsDistance plant k x z = HoldsColumns plant (distance plant k) x z

-- these times the weight of the state, as far as they aren't 0
pub record IsWeighted (plant : Plant) (k : ℕ) (x z : RationalMatrix) : Type 0 where
  pub x_shape : HasShape x (plant.n + 1) plant.n
  pub z_shape : HasShape z (plant.p * plant.horizon) plant.n
  pub x_is : (j : ℕ) → j < plant.n + 1 → row_at x j ≡ weighted plant k j
  pub z_is : (j : ℕ) → j < plant.p * k → row_at z j ≡ weighted plant k (plant.n + 1 + j)

-- R times the target of the moves is the first row of m, and the target's dot with it is the number
pub record IsGoal (plant : Plant) (m : RationalMatrix) (square : ℚ) : Type 0 where
  pub some : 0 < height m
  pub weighted_is : row_at m 0 ≡ mat_vec plant.r.rows plant.ugoal
  pub square_is : square ≡ quadratic plant.r.rows plant.ugoal

-- the matrices of the cost hold these sums
pub record HoldsSums (plant : Plant) (sum : ℕ → ℕ → ℚ) (h f y : RationalMatrix) : Type 0 where
  pub h_shape : HasShape h (plant.p * plant.horizon) (plant.p * plant.horizon)
  pub f_shape : HasShape f (plant.p * plant.horizon) (plant.n + 1)
  pub y_shape : HasShape y (plant.n + 1) (plant.n + 1)
  pub h_is : (i l : ℕ) → i < plant.p * plant.horizon → l < plant.p * plant.horizon → entry h i l ≡ sum (plant.n + 1 + i) (plant.n + 1 + l)
  pub f_is : (i l : ℕ) → i < plant.p * plant.horizon → l < plant.n + 1 → entry f i l ≡ sum (plant.n + 1 + i) l
  pub y_is : (i l : ℕ) → i < plant.n + 1 → l < plant.n + 1 → entry y i l ≡ sum i l

-- row i, from 0, of the program is this row of the plant at step k
abbrev pub IsRow : Plant → ℕ → ℕ → PlantRow → Type 0
IsRow plant i k row =
    ((r : ℕ) × (k < plant.horizon) × (slice_get plant.rows r ≡ Some row) × (i ≡ stage_row plant k r))
    ⊎ ((r : ℕ) × (k ≡ plant.horizon) × (slice_get plant.terminal r ≡ Some row) × (i ≡ terminal_row plant r))

-- The rows of the program.
use Rattle.std.specs.Prelude.{◌≡◌, ◌≢◌, ℕ, ◌+◌, ◌-◌, ◌*◌, ◌<◌, ◌≤◌, List, pos, nat_lt, if◌then◌else◌}
use Rattle.mpc_exact.specs.Rational.{ℚ, int, ◌-ℚ◌}
use Rattle.mpc_space.specs.Vector.{coordinate, dot}
use Rattle.mpc_space.specs.Matrix.{RationalMatrix, entry}
use Rattle.mpc_plant.specs.declared.lists.PlantRow.{PlantRow}
use Rattle.mpc_plant.specs.declared.plants.Plant.{Plant}
use Rattle.mpc_linear.specs.Shape.{HasShape}
use Rattle.mpc_condense.specs.Motion.{motion, bound_of}
use Rattle.mpc_condense.specs.Blocks.{row_at}
use Rattle.mpc_condense.specs.Stages.{IsRow}
use Rattle.mpc_condense.specs.Causes.{row_count}

-- entry j of the right side of a row at step k, for the extended counts
abbrev pub right_entry : Plant → ℕ → PlantRow → ℕ → ℚ
right_entry plant k row j = bound_of row j -ℚ dot row.x (motion plant k j)

-- and of its left side, for the moves
abbrev pub left_entry : Plant → ℕ → PlantRow → ℕ → ℚ
left_entry plant k row j =
    if nat_lt j (plant.p * k) then dot row.x (motion plant k (plant.n + 1 + j))
    else (if nat_lt j (plant.p * k + plant.p) then coordinate row.u (j - plant.p * k) else int (pos 0))

pub record HasRow (plant : Plant) (k : ℕ) (row : PlantRow) (left right : List ℚ) : Type 0 where
  pub left_is : (j : ℕ) → j < plant.p * plant.horizon → coordinate left j ≡ left_entry plant k row j
  pub right_is : (j : ℕ) → j < plant.n + 1 → coordinate right j ≡ right_entry plant k row j

-- row i is now that of the plant's row, and every other row is as it was
pub record AddsRow (plant : Plant) (k : ℕ) (row : PlantRow) (i : ℕ) (g w g' w' : RationalMatrix) : Type 0 where
  pub has_row : HasRow plant k row (row_at g' i) (row_at w' i)
  pub g_shape : (r c : ℕ) → HasShape g r c → HasShape g' r c
  pub w_shape : (r c : ℕ) → HasShape w r c → HasShape w' r c
  pub g_others : (r j : ℕ) → r ≢ i → entry g' r j ≡ entry g r j
  pub w_others : (r j : ℕ) → r ≢ i → entry w' r j ≡ entry w r j

-- the first rows are done, and the others of the left side are still 0
pub record RowsDone (plant : Plant) (g w : RationalMatrix) (n : ℕ) : Type 0 where
  pub g_shape : HasShape g (row_count plant) (plant.p * plant.horizon)
  pub w_shape : HasShape w (row_count plant) (plant.n + 1)
  pub rows : (i k : ℕ) (row : PlantRow) → i < n → IsRow plant i k row → HasRow plant k row (row_at g i) (row_at w i)
  pub empty : (i j : ℕ) → n ≤ i → i < row_count plant → entry g i j ≡ int (pos 0)

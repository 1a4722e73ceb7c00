-- When a quadratic program is that of a plant: it has the plant's cost and the plant's rows, at every state and for every sequence.
use Rattle.std.specs.Prelude.{◌≡◌, ℕ, ◌+◌, ◌*◌, ◌<◌, List, [], ◌∷◌, ◌++◌, length, map, slice_index_or, slice_get, Some, pos}
use Rattle.mpc_exact.specs.Rational.{ℚ, int, ◌+ℚ◌, ◌-ℚ◌, ◌*ℚ◌}
use Rattle.mpc_space.specs.Vector.{dot, mat_vec, quadratic, IsSymmetric}
use Rattle.mpc_space.specs.Matrix.{height}
use Rattle.mpc_plant.specs.declared.lists.PlantRow.{PlantRow}
use Rattle.mpc_plant.specs.declared.lists.Coordinate.{Coordinate}
use Rattle.mpc_plant.specs.declared.plants.Plant.{Plant}
use Rattle.mpc_plant.specs.Trajectory.{IsSequence, move_at, state_at, cost}
use Rattle.mpc_rows.specs.declared.programs.Qp.{Qp}
use Rattle.mpc_rows.specs.ActiveSets.{extended}

-- the moves, one after the other
abbrev pub stacked : List (List ℚ) → List ℚ
stacked [] = []
stacked (u ∷ v) = u ++ stacked v

-- z'h z + 2 z'f c + c'y c
abbrev pub program_cost : Qp → List ℚ → List ℚ → ℚ
program_cost qp c z = quadratic qp.h.rows z +ℚ int (pos 2) *ℚ dot z (mat_vec qp.f.rows c) +ℚ quadratic qp.y.rows c

-- w_i c - g_i z, for the row i counted from 0
abbrev pub room : Qp → ℕ → List ℚ → List ℚ → ℚ
room qp i c z = dot (slice_index_or qp.w.rows i []) c -ℚ dot (slice_index_or qp.g.rows i []) z

-- the rows, counted from 0, are the stage rows at step 0, then those at step 1, and so on, and then the terminal rows
abbrev pub stage_row : Plant → ℕ → ℕ → ℕ
stage_row plant k r = k * length plant.rows + r

abbrev pub terminal_row : Plant → ℕ → ℕ
terminal_row plant r = plant.horizon * length plant.rows + r

-- what the rows leave at the states and moves of a sequence
pub record HasRoom (qp : Qp) (plant : Plant) (t : List ℚ) (v : List (List ℚ)) : Type 0 where
  pub stage : (k r : ℕ) (row : PlantRow) → k < plant.horizon → slice_get plant.rows r ≡ Some row →
      room qp (stage_row plant k r) (extended t) (stacked v) ≡ row.max -ℚ (dot row.x (state_at plant t v k) +ℚ dot row.u (move_at v k))
  pub terminal : (r : ℕ) (row : PlantRow) → slice_get plant.terminal r ≡ Some row →
      room qp (terminal_row plant r) (extended t) (stacked v) ≡ row.max -ℚ dot row.x (state_at plant t v plant.horizon)

-- the counts of the coordinates
abbrev pub counts_of : List Coordinate → List ℕ
counts_of grid = map (λ axis. axis.count) grid

pub record IsCondensed (qp : Qp) (plant : Plant) : Type 0 where
  pub counts_are : qp.counts ≡ counts_of plant.grid
  pub unknowns_are : height qp.h ≡ plant.p * plant.horizon
  pub rows_are : height qp.g ≡ plant.horizon * length plant.rows + length plant.terminal
  pub h_symmetric : IsSymmetric qp.h.rows
  pub y_symmetric : IsSymmetric qp.y.rows
  pub same_cost : (t : List ℚ) (v : List (List ℚ)) → length t ≡ plant.n → IsSequence plant v → cost plant t v ≡ program_cost qp (extended t) (stacked v)
  pub same_rows : (t : List ℚ) (v : List (List ℚ)) → length t ≡ plant.n → IsSequence plant v → HasRoom qp plant t v

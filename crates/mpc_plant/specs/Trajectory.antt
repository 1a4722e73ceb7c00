-- The motion of a plant from a state of its box under a sequence of moves, which sequences keep its rows, and what a sequence costs.
use Rattle.std.specs.Prelude.{◌≡◌, ◌≢◌, ℕ, zero, suc, ◌<◌, List, [], ◌∷◌, ◌++◌, length, All, pos, map, slice_index_or}
use Rattle.mpc_exact.specs.Rational.{ℚ, int, ◌+ℚ◌, ◌*ℚ◌, ◌≤ℚ◌, ◌<ℚ◌}
use Rattle.mpc_space.specs.Vector.{dot, vec_add, vec_sub, mat_vec, quadratic}
use Rattle.mpc_space.specs.Total.{total}
use Rattle.mpc_plant.specs.declared.lists.PlantRow.{PlantRow}
use Rattle.mpc_plant.specs.declared.lists.Coordinate.{Coordinate}
use Rattle.mpc_plant.specs.declared.plants.Plant.{Plant}

-- ---- the box of states

-- a list of fractions, one a coordinate, each from 0 to the coordinate's count
abbrev pub IsWithin : List Coordinate → List ℚ → Type 0
IsWithin [] [] = Unit {0}
IsWithin [] (t ∷ ts) = ⊥
IsWithin (axis ∷ grid) [] = ⊥
IsWithin (axis ∷ grid) (t ∷ ts) = (int (pos 0) ≤ℚ t) × (t ≤ℚ int (pos axis.count)) × IsWithin grid ts

-- a point of the box
abbrev pub IsInBox : Plant → List ℚ → Type 0
IsInBox plant t = IsWithin plant.grid t

-- counts as a point
abbrev pub point_of : List ℕ → List ℚ
point_of counts = map (λ k. int (pos k)) counts

-- low + step t, coordinate by coordinate
abbrev pub values_at : List Coordinate → List ℚ → List ℚ
values_at [] ts = []
values_at (axis ∷ grid) [] = []
values_at (axis ∷ grid) (t ∷ ts) = (axis.low +ℚ axis.step *ℚ t) ∷ values_at grid ts

-- the state at a point
abbrev pub state_of : Plant → List ℚ → List ℚ
state_of plant t = values_at plant.grid t

-- ---- moves and motion

-- the move at step k
abbrev pub move_at : List (List ℚ) → ℕ → List ℚ
move_at v k = slice_index_or v k []

-- one move a step, each with one entry an input
pub record IsSequence (plant : Plant) (v : List (List ℚ)) : Type 0 where
  pub steps : length v ≡ plant.horizon
  pub inputs : All (λ u. length u ≡ plant.p) v

-- x[0] is the state at t, and x[k+1] = A x[k] + B v[k] + drift
abbrev pub state_at : Plant → List ℚ → List (List ℚ) → ℕ → List ℚ
state_at plant t v zero = state_of plant t
state_at plant t v (suc k) = vec_add (vec_add (mat_vec plant.a.rows (state_at plant t v k)) (mat_vec plant.b.rows (move_at v k))) plant.drift

-- x[0] to x[k]
abbrev pub states_to : Plant → List ℚ → List (List ℚ) → ℕ → List (List ℚ)
states_to plant t v zero = state_at plant t v zero ∷ []
states_to plant t v (suc k) = states_to plant t v k ++ state_at plant t v (suc k) ∷ []

-- all states of the motion, from x[0] to x[N]
abbrev pub rolled : Plant → List ℚ → List (List ℚ) → List (List ℚ)
rolled plant t v = states_to plant t v plant.horizon

-- ---- rows

-- a·x + b·u is at most the row's max
abbrev pub Keeps : PlantRow → List ℚ → List ℚ → Type 0
Keeps row x u = (dot row.x x +ℚ dot row.u u) ≤ℚ row.max

-- a·x is at most the row's max
abbrev pub KeepsAtEnd : PlantRow → List ℚ → Type 0
KeepsAtEnd row x = dot row.x x ≤ℚ row.max

pub record IsAdmissible (plant : Plant) (t : List ℚ) (v : List (List ℚ)) : Type 0 where
  pub stage : (k : ℕ) → k < plant.horizon → All (λ row. Keeps row (state_at plant t v k) (move_at v k)) plant.rows
  pub end : All (λ row. KeepsAtEnd row (state_at plant t v plant.horizon)) plant.terminal

-- ---- cost

-- (x - xgoal)'Q (x - xgoal) + (u - ugoal)'R (u - ugoal)
abbrev pub stage_cost : Plant → List ℚ → List ℚ → ℚ
stage_cost plant x u = quadratic plant.q.rows (vec_sub x plant.xgoal) +ℚ quadratic plant.r.rows (vec_sub u plant.ugoal)

-- (x - xgoal)'P (x - xgoal)
abbrev pub end_cost : Plant → List ℚ → ℚ
end_cost plant x = quadratic plant.last.rows (vec_sub x plant.xgoal)

-- the stages' costs, and that of the last state
abbrev pub cost : Plant → List ℚ → List (List ℚ) → ℚ
cost plant t v = total plant.horizon (λ k. stage_cost plant (state_at plant t v k) (move_at v k)) +ℚ end_cost plant (state_at plant t v plant.horizon)

-- the one admissible sequence of least cost: every other one costs more
pub record IsBest (plant : Plant) (t : List ℚ) (v : List (List ℚ)) : Type 0 where
  pub sequence : IsSequence plant v
  pub admissible : IsAdmissible plant t v
  pub cheapest : (w : List (List ℚ)) → IsSequence plant w → IsAdmissible plant t w → w ≢ v → cost plant t v <ℚ cost plant t w

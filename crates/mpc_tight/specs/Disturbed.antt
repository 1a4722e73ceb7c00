-- The motion of a plant that a disturbance moves at each step, which sequences of moves keep its rows whatever the disturbance is, and which
-- of them is the cheapest.
use Rattle.std.specs.Prelude.{◌≡◌, ◌≢◌, ℕ, zero, suc, ◌<◌, List, [], length, All, map, slice_index_or}
use Rattle.mpc_exact.specs.Rational.{ℚ, abs_ℚ, ◌<ℚ◌}
use Rattle.mpc_space.specs.Vector.{vec_add, mat_vec, AllAtMost}
use Rattle.mpc_plant.specs.declared.plants.Plant.{Plant}
use Rattle.mpc_plant.specs.Trajectory.{IsSequence, Keeps, KeepsAtEnd, move_at, state_of, cost}
use Rattle.mpc_plant.specs.Reply.{Reply, move, infeasible}

-- the absolute values of the entries
abbrev pub sizes : List ℚ → List ℚ
sizes xs = map abs_ℚ xs

-- a disturbance is one list a step, with one entry a state, each at most the noise of that state in size
pub record IsDisturbance (plant : Plant) (noise : List ℚ) (e : List (List ℚ)) : Type 0 where
  pub steps : length e ≡ plant.horizon
  pub within : All (λ d. AllAtMost (sizes d) noise) e

-- what is added to the state by step k
abbrev pub disturbance_at : List (List ℚ) → ℕ → List ℚ
disturbance_at e k = slice_index_or e k []

-- x[0] is the state at t, and x[k+1] = A x[k] + B v[k] + drift + e[k]
abbrev pub disturbed_at : Plant → List ℚ → List (List ℚ) → List (List ℚ) → ℕ → List ℚ
disturbed_at plant t v e zero = state_of plant t
disturbed_at plant t v e (suc k) =
    vec_add (vec_add (vec_add (mat_vec plant.a.rows (disturbed_at plant t v e k)) (mat_vec plant.b.rows (move_at v k))) plant.drift) (disturbance_at e k)

-- all rows of the plant hold on the disturbed states
pub record KeepsRows (plant : Plant) (t : List ℚ) (v e : List (List ℚ)) : Type 0 where
  pub stage : (k : ℕ) → k < plant.horizon → All (λ row. Keeps row (disturbed_at plant t v e k) (move_at v k)) plant.rows
  pub end : All (λ row. KeepsAtEnd row (disturbed_at plant t v e plant.horizon)) plant.terminal

-- whatever the disturbance is
abbrev pub IsRobustlyAdmissible : Plant → List ℚ → List ℚ → List (List ℚ) → Type 0
IsRobustlyAdmissible plant noise t v = (e : List (List ℚ)) → IsDisturbance plant noise e → KeepsRows plant t v e

-- the one robustly admissible sequence of least cost, where the cost is that of the motion without a disturbance
pub record IsRobustlyBest (plant : Plant) (noise t : List ℚ) (v : List (List ℚ)) : Type 0 where
  pub sequence : IsSequence plant v
  pub admissible : IsRobustlyAdmissible plant noise t v
  pub cheapest : (w : List (List ℚ)) → IsSequence plant w → IsRobustlyAdmissible plant noise t w → w ≢ v → cost plant t v <ℚ cost plant t w

-- the first move of the robustly best sequence, and infeasible only where no sequence is robustly admissible
abbrev pub IsRobustlyRight : Plant → List ℚ → List ℚ → Reply → Type 0
IsRobustlyRight plant noise t (move u) = (v : List (List ℚ)) × IsRobustlyBest plant noise t v × (move_at v 0 ≡ u)
IsRobustlyRight plant noise t infeasible = (v : List (List ℚ)) → IsSequence plant v → ¬ IsRobustlyAdmissible plant noise t v

-- Which numbers of a plant's cost must fit, step by step: first the state, then what the step costs.
use Rattle.std.specs.Prelude.{◌≡◌, ℕ, ◌<◌, ◌≤◌, List, length}
use Rattle.mpc_exact.specs.Rational.{ℚ, ◌+ℚ◌, neg_ℚ}
use Rattle.mpc_frac.specs.Fits.{FitsSum}
use Rattle.mpc_space.specs.Vector.{coordinate, vec_sub, mat_vec, quadratic}
use Rattle.mpc_space.specs.Matrix.{RationalMatrix, height}
use Rattle.mpc_space.specs.Total.{total}
use Rattle.mpc_linear.specs.Dot.{DotFits}
use Rattle.mpc_plant.specs.declared.plants.Plant.{Plant}
use Rattle.mpc_plant.specs.Trajectory.{state_at, move_at, stage_cost}
use Rattle.mpc_plant.specs.RollWidth.{row_at, StateFits, IsFirstFailing}

-- each entry of m x
abbrev pub ImageFits : RationalMatrix → List ℚ → Type 0
ImageFits m x = (i : ℕ) → i < height m → DotFits (row_at m i) x

-- m x, then x'(m x), and its sum with s
pub record FormFits (s : ℚ) (m : RationalMatrix) (x : List ℚ) : Type 0 where
  pub image : ImageFits m x
  pub form : DotFits x (mat_vec m.rows x)
  pub sum : FitsSum s (quadratic m.rows x)

-- each entry of x - goal
abbrev pub GapFits : List ℚ → List ℚ → Type 0
GapFits x goal = (i : ℕ) → i < length x → FitsSum (coordinate x i) (neg_ℚ (coordinate goal i))

-- d = x - goal, then d'(m d), and its sum with s
pub record TargetFits (s : ℚ) (m : RationalMatrix) (x goal : List ℚ) : Type 0 where
  pub gap : GapFits x goal
  pub form : FormFits s m (vec_sub x goal)

-- the cost of the steps below k
abbrev pub cost_below : Plant → List ℚ → List (List ℚ) → ℕ → ℚ
cost_below plant t v k = total k (λ j. stage_cost plant (state_at plant t v j) (move_at v j))

-- d'(Q d) with d = x - xgoal, and behind it e'(R e) with e = u - ugoal, added to s
pub record StageFits (plant : Plant) (s : ℚ) (x u : List ℚ) : Type 0 where
  pub state : TargetFits s plant.q x plant.xgoal
  pub move : TargetFits (s +ℚ quadratic plant.q.rows (vec_sub x plant.xgoal)) plant.r u plant.ugoal

-- the state at step k, and what the step adds to the cost of those before it
pub record StepFits (plant : Plant) (t : List ℚ) (v : List (List ℚ)) (k : ℕ) : Type 0 where
  pub state : StateFits plant t v k
  pub stage : k < plant.horizon → StageFits plant (cost_below plant t v k) (state_at plant t v k) (move_at v k)
  pub end : k ≡ plant.horizon → TargetFits (cost_below plant t v k) plant.last (state_at plant t v k) plant.xgoal

-- each step, and the end
abbrev pub StepsFit : Plant → List ℚ → List (List ℚ) → Type 0
StepsFit plant t v = (k : ℕ) → k ≤ plant.horizon → StepFits plant t v k

-- step k is the first at which a number is too wide
abbrev pub IsFirstWideStep : Plant → List ℚ → List (List ℚ) → ℕ → Type 0
IsFirstWideStep plant t v k = IsFirstFailing (StepFits plant t v) plant.horizon k

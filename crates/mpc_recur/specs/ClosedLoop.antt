-- The closed loop of a plant and its controller, over any number of steps: x[k+1] = A x[k] + B u[k] + drift, where u[k] is the reply at x[k].
use Rattle.std.specs.Prelude.{◌≡◌, ℕ, ◌+◌, List}
use Rattle.mpc_exact.specs.Rational.{ℚ}
use Rattle.mpc_plant.specs.Trajectory.{IsInBox, state_of}
use Rattle.mpc_plant.specs.Reply.{move}
use Rattle.mpc_controller.specs.Parts.{Parts}
use Rattle.mpc_controller.specs.Bounds.{IsController}
use Rattle.mpc_controller.specs.Replies.{RepliesAt}
use Rattle.mpc_recur.specs.Successors.{successor, HasMove, IsSafe}

-- x is the state of the point t of the box
pub record IsStateAt (parts : Parts) (x t : List ℚ) : Type 0 where
  pub in_box : IsInBox parts.plant t
  pub is_state : x ≡ state_of parts.plant t

-- from the state at a point the closed loop comes in so many steps to the state x
pub data ComesTo (parts : Parts) (start : List ℚ) : ℕ → List ℚ → Type 0 where
  begins : ComesTo parts start 0 (state_of parts.plant start)
  moves : (k : ℕ) (x t u : List ℚ) → ComesTo parts start k x → IsStateAt parts x t → RepliesAt parts t (move u) → ComesTo parts start (k + 1) (successor parts.plant x u)

-- the state x is that of a point at which the controller has a move
pub record GoesOn (parts : Parts) (x : List ℚ) : Type 0 where
  pub point : List ℚ
  pub is_state : x ≡ state_of parts.plant point
  pub has_move : HasMove parts point

-- for every number of steps there is a state to which the closed loop comes, and the loop goes on from each to which it comes
pub record GoesOnForever (parts : Parts) (start : List ℚ) : Type 0 where
  pub comes : (k : ℕ) → (x : List ℚ) × ComesTo parts start k x
  pub goes_on : (k : ℕ) (x : List ℚ) → ComesTo parts start k x → GoesOn parts x

-- a safe controller that has a move has one forever
abbrev pub SafeGoesOn : Type 0
SafeGoesOn = (parts : Parts) → IsController parts.plant parts.laws parts.tree → IsSafe parts → (start : List ℚ) → HasMove parts start → GoesOnForever parts start

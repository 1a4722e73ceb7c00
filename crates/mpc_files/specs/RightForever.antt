-- What it means that a controller is accepted and safe: from every point of the box with an admissible sequence, after any number of steps, the
-- state is one of the box, and the reply is the first move of the cheapest admissible sequence there.
use Rattle.std.specs.Prelude.{◌≡◌, ℕ, List}
use Rattle.mpc_exact.specs.Rational.{ℚ}
use Rattle.mpc_plant.specs.Trajectory.{IsInBox, IsSequence, IsAdmissible, IsBest, move_at}
use Rattle.mpc_plant.specs.Reply.{Reply, move}
use Rattle.mpc_controller.specs.Parts.{Parts}
use Rattle.mpc_controller.specs.Bounds.{IsController}
use Rattle.mpc_controller.specs.Replies.{RepliesAt}
use Rattle.mpc_check.specs.Acceptance.{Accepts}
use Rattle.mpc_recur.specs.Successors.{IsSafe}
use Rattle.mpc_recur.specs.ClosedLoop.{IsStateAt, ComesTo}

-- a point of the box from which some sequence is admissible
pub record HasAdmissible (parts : Parts) (t : List ℚ) : Type 0 where
  pub in_box : IsInBox parts.plant t
  pub sequence : List (List ℚ)
  pub is_sequence : IsSequence parts.plant sequence
  pub admissible : IsAdmissible parts.plant t sequence

-- The state x is that of a point of the box. The reply there is the first move of the cheapest admissible sequence, and nothing else is replied,
-- so that it isn't `infeasible`.
pub record RepliesBest (parts : Parts) (x : List ℚ) : Type 0 where
  pub point : List ℚ
  pub state : IsStateAt parts x point
  pub best : List (List ℚ)
  pub is_best : IsBest parts.plant point best
  pub replies : RepliesAt parts point (move (move_at best 0))
  pub only : (reply : Reply) → RepliesAt parts point reply → reply ≡ move (move_at best 0)

-- for every number of steps the closed loop comes to a state, and replies so at each to which it comes
pub record IsRightForever (parts : Parts) (start : List ℚ) : Type 0 where
  pub comes : (k : ℕ) → (x : List ℚ) × ComesTo parts start k x
  pub right : (k : ℕ) (x : List ℚ) → ComesTo parts start k x → RepliesBest parts x

abbrev pub StaysRight : Parts → Type 0
StaysRight parts = (start : List ℚ) → HasAdmissible parts start → IsRightForever parts start

abbrev pub SafeStaysRight : Type 0
SafeStaysRight = (parts : Parts) → IsController parts.plant parts.laws parts.tree → Accepts parts → IsSafe parts → StaysRight parts

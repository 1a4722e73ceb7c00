-- A controller replies at each point, also at one between the grid states or outside the box.
use Rattle.std.specs.Prelude.{List}
use Rattle.mpc_exact.specs.Rational.{ℚ}
use Rattle.mpc_plant.specs.Reply.{Reply}
use Rattle.mpc_controller.specs.Parts.{Parts}
use Rattle.mpc_controller.specs.Bounds.{IsController}
use Rattle.mpc_controller.specs.Replies.{RepliesAt}

abbrev pub RepliesEverywhere : Type 0
RepliesEverywhere = (parts : Parts) → IsController parts.plant parts.laws parts.tree → (t : List ℚ) → (reply : Reply) × RepliesAt parts t reply

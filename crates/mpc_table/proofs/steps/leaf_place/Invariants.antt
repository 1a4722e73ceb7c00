use Rattle.std.proofs.Common.{◌≡◌, ◌<◌, ◌-◌, List, length}
use Rattle.mpc_plant.specs.Trajectory.{point_of}
use Rattle.mpc_rows.specs.declared.trees.Node.{Node}
use Rattle.mpc_controller.specs.Walk.{Reaches}
use Rattle.mpc_table.specs.Steps.{steps_of, AreNoSides}
use Rattle.mpc_table.specs.SharedSteps.{actions_at}
use Rattle.mpc_table.proofs.steps.leaf_place.Given as goal

abbrev pub invariant-loop-next : goal.invariant-loop-next
invariant-loop-next l = record {
  inside : l.place < length l.steps;
  walks : (nodes : List Node) → actions_at l.rows l.steps ≡ steps_of nodes → AreNoSides nodes l.sides → Reaches nodes (point_of l.counts) l.place;
}

abbrev pub decreases-loop-next : goal.decreases-loop-next
decreases-loop-next l = length l.steps - l.place

use Rattle.std.proofs.Common.{take}
use Rattle.std.specs.Prelude.{All}
use Rattle.mpc_controller.specs.Bounds.{NodeFits}
use Rattle.mpc_controller.proofs.bounds.first_wide_node.Given as goal

abbrev pub invariant-loop-place : goal.invariant-loop-place
invariant-loop-place l = All (NodeFits l.counts) (take l.place l.tree)

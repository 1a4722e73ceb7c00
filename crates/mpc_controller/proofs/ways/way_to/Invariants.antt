use Rattle.std.proofs.Common.{◌<◌, length}
use Rattle.mpc_controller.specs.Ways.{IsWay}
use Rattle.mpc_controller.proofs.ways.way_to.Given as goal

abbrev pub invariant-loop-k : goal.invariant-loop-k
invariant-loop-k l = l.k < length l.tree → IsWay l.tree l.k l.way.items

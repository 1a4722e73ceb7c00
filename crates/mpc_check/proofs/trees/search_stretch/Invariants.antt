use Rattle.std.proofs.Common.{◌<◌, length}
use Rattle.mpc_check.specs.Findings.{EachFrom}
use Rattle.mpc_check.specs.LeafConditions.{NodeAtMet}
use Rattle.mpc_controller.specs.Ways.{IsWay}
use Rattle.mpc_check.proofs.trees.search_stretch.Given as goal

abbrev pub invariant-loop-place : goal.invariant-loop-place
invariant-loop-place l = record {
  way : l.place < length l.tree → IsWay l.tree l.place l.way.items;
  met : EachFrom (NodeAtMet l.qp l.laws l.tree) l.fn.stretch.from l.place;
}

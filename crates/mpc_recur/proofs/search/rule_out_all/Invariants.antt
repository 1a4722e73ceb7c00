use Rattle.std.proofs.Common.{◌<◌, length}
use Rattle.mpc_recur.specs.Findings.{Each}
use Rattle.mpc_recur.specs.Targets.{NodeAtMet}
use Rattle.mpc_controller.specs.Ways.{IsWay}
use Rattle.mpc_recur.proofs.search.rule_out_all.Given as goal

abbrev pub invariant-loop-place : goal.invariant-loop-place
invariant-loop-place l = record {
  way : l.place < length l.controller.tree → IsWay l.controller.tree l.place l.way.items;
  met : Each (NodeAtMet l.controller) l.place;
}

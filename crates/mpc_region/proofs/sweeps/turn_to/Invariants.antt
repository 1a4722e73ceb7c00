use Rattle.std.proofs.Common.{◌≡◌, ◌<◌}
use Rattle.mpc_region.specs.SweptSets.{AreSweeps}
use Rattle.mpc_region.proofs.sweeps.turn_to.Given as goal

abbrev pub invariant-loop-count : goal.invariant-loop-count
invariant-loop-count l = record {
  sweeps : AreSweeps l.qp l.sweeps;
  set : l.sweeps.set ≡ l.fn.set;
  some : 0 < l.sweeps.count;
  count : l.sweeps.count ≡ l._count;
}

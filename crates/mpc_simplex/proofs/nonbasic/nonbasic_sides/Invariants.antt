use Rattle.std.proofs.Common.{◌≤◌, take, length}
use Rattle.mpc_simplex.specs.Nonbasic.{AreNonbasicSides}
use Rattle.mpc_simplex.proofs.nonbasic.nonbasic_sides.Given as goal

abbrev pub invariant-loop-side : goal.invariant-loop-side
invariant-loop-side l = record {
  within : l.count ≤ length l.list;
  sides : AreNonbasicSides l.system.width l.side l.seats (take l.count l.list);
}

use Rattle.std.proofs.Common.{◌≤◌}
use Rattle.mpc_beginnings.proofs.Seated.{AreSeatedTo}
use Rattle.mpc_beginnings.proofs.lists.push_sides.Given as goal

abbrev pub invariant-loop-r : goal.invariant-loop-r
invariant-loop-r l = record {
  from : l.height ≤ l.r;
  seated : AreSeatedTo l.height l.r l.fn.seats.items l.seats.items;
}

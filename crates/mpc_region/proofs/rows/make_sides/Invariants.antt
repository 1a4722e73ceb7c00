use Rattle.std.proofs.Common.{◌≡◌, length}
use Rattle.mpc_region.proofs.rows.make_sides.Given as goal

abbrev pub invariant-loop : goal.invariant-loop
invariant-loop l = length l.sides.items ≡ l.counter

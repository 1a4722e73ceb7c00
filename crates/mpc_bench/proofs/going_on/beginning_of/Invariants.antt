use Rattle.std.proofs.Common.{◌≡◌}
use Rattle.mpc_bench.specs.Courses.{first_rows}
use Rattle.mpc_bench.proofs.going_on.beginning_of.Given as goal

abbrev pub invariant-loop-i : goal.invariant-loop-i
invariant-loop-i l = l.beginning ≡ first_rows l.system l.i

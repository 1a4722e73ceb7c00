use Rattle.std.proofs.Common.{◌≡◌, ◌++◌}
use Rattle.mpc_space.specs.Vector.{zeros}
use Rattle.mpc_systems.proofs.entries.push_zeros.Given as goal

abbrev pub invariant-loop-k : goal.invariant-loop-k
invariant-loop-k l = l.out ≡ l.fn.out ++ zeros l._k

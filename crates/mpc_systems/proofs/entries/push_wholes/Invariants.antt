use Rattle.std.proofs.Common.{◌≡◌, ◌++◌, map, take}
use Rattle.mpc_exact.specs.Rational.{int}
use Rattle.mpc_systems.proofs.entries.push_wholes.Given as goal

abbrev pub invariant-loop-z : goal.invariant-loop-z
invariant-loop-z l = l.out ≡ l.fn.out ++ map int (take l.z-index l.numbers)

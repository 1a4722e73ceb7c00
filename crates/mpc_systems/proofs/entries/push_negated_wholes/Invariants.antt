use Rattle.std.proofs.Common.{◌≡◌, ◌++◌, map, take, negsuc}
use Rattle.mpc_exact.specs.Rational.{int}
use Rattle.mpc_space.specs.Vector.{vec_scale}
use Rattle.mpc_systems.proofs.entries.push_negated_wholes.Given as goal

abbrev pub invariant-loop-z : goal.invariant-loop-z
invariant-loop-z l = l.out ≡ l.fn.out ++ vec_scale (int (negsuc 0)) (map int (take l.z-index l.numbers))

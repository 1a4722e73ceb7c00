use Rattle.std.proofs.Common.{◌≡◌, ◌++◌, take, negsuc}
use Rattle.mpc_exact.specs.Rational.{int}
use Rattle.mpc_space.specs.Vector.{vec_scale}
use Rattle.mpc_systems.proofs.entries.push_negatives.Given as goal

abbrev pub invariant-loop-x : goal.invariant-loop-x
invariant-loop-x l = l.out ≡ l.fn.out ++ vec_scale (int (negsuc 0)) (take l.x-index l.entries)

use Rattle.std.proofs.Common.{pos}
use Rattle.mpc_exact.specs.Rational.{int}
use Rattle.mpc_linear.specs.SumTheorems.{IsSumSoFar}
use Rattle.mpc_tight.specs.Disturbed.{sizes}
use Rattle.mpc_tight.proofs.vectors.most_added.Given as goal

abbrev pub invariant-loop-place : goal.invariant-loop-place
invariant-loop-place l = IsSumSoFar (int (pos 0)) (sizes l.row) l.noise l.place l.sum

use Rattle.std.proofs.Common.{pos}
use Rattle.mpc_exact.specs.Rational.{int}
use Rattle.mpc_linear.specs.SumTheorems.{IsSumSoFar}
use Rattle.mpc_online.specs.Wholes.{first_of}
use Rattle.mpc_online.proofs.points.dot_of_entries.Given as goal

abbrev pub invariant-loop-place : goal.invariant-loop-place
invariant-loop-place l = IsSumSoFar (int (pos 0)) l.row (first_of l.numbers l.count) l.place l.sum

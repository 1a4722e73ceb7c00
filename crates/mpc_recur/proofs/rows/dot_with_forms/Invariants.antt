use Rattle.std.proofs.Common.{pos}
use Rattle.mpc_exact.specs.Rational.{int}
use Rattle.mpc_space.specs.Vector.{column}
use Rattle.mpc_linear.specs.SumTheorems.{IsSumSoFar}
use Rattle.mpc_recur.proofs.rows.dot_with_forms.Given as goal

abbrev pub invariant-loop-k : goal.invariant-loop-k
invariant-loop-k l = IsSumSoFar (int (pos 0)) l.coefficients (column l.forms l.term) l.k l.sum

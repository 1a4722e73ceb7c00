use Rattle.std.proofs.Common.{pos}
use Rattle.mpc_exact.specs.Rational.{int}
use Rattle.mpc_linear.specs.SumTheorems.{IsSumSoFar}
use Rattle.mpc_rows.specs.Refutation.{coefficients_on}
use Rattle.mpc_rows.proofs.refuting.column_sum.Given as goal

abbrev pub invariant-loop-i : goal.invariant-loop-i
invariant-loop-i l = IsSumSoFar (int (pos 0)) l.multipliers (coefficients_on l.unknown l.system.rows) l.i l.sum

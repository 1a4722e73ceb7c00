use Rattle.std.proofs.Common.{pos}
use Rattle.mpc_exact.specs.Rational.{int}
use Rattle.mpc_space.specs.Vector.{column}
use Rattle.mpc_linear.specs.SumTheorems.{IsSumSoFar}
use Rattle.mpc_tight.proofs.vectors.dot_with_column.Given as goal

abbrev pub invariant-loop-at_row : goal.invariant-loop-at_row
invariant-loop-at_row l = IsSumSoFar (int (pos 0)) l.row (column l.matrix.rows l.at_column) l.at_row l.sum

use Rattle.std.proofs.Common.{length, pos}
use Rattle.mpc_exact.specs.Rational.{int}
use Rattle.mpc_space.specs.Vector.{column}
use Rattle.mpc_linear.specs.Grid.{grid}
use Rattle.mpc_linear.specs.SumTheorems.{IsSumSoFar}
use Rattle.mpc_linear.proofs.matrices.dot_with_column.Given as goal

abbrev pub invariant-loop-k : goal.invariant-loop-k
invariant-loop-k l = IsSumSoFar (int (pos 0)) l.row (column (grid (length l.row) l.width l.entries).rows l.at_column) l.k l.sum

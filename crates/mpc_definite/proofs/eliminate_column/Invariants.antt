use Rattle.std.proofs.Common.{◌≤◌, ◌+◌}
use Rattle.mpc_space.specs.Matrix.{height, entry}
use Rattle.mpc_definite.proofs.Work.{ColumnSome, RowsFit}
use Rattle.mpc_definite.proofs.eliminate_column.Given as goal

abbrev pub invariant-loop-row : goal.invariant-loop-row
invariant-loop-row l = record {
  low : l.column + 1 ≤ l.row;
  rows : ColumnSome l.fn.lower l.lower l.column l.row;
  fits : RowsFit (entry l.fn.lower) (height l.fn.lower) l.column l.row;
}

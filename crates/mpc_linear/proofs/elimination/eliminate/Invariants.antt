use Rattle.mpc_linear.specs.Elimination.{ColumnsDone, eliminated}
use Rattle.mpc_linear.specs.Stored.{stored, SameFrom}
use Rattle.mpc_linear.proofs.elimination.eliminate.Given as goal

abbrev pub invariant-loop-column : goal.invariant-loop-column
invariant-loop-column l = record {
  before : ColumnsDone l.rows l.width (stored l.width l.fn.table) l.column;
  same : SameFrom l.rows l.width l.column (stored l.width l.table) (eliminated l.rows (stored l.width l.fn.table) l.column);
}

use Rattle.mpc_linear.specs.Stored.{stored}
use Rattle.mpc_linear.proofs.Steps.{Clearing}
use Rattle.mpc_linear.proofs.elimination.clear_column.Given as goal

abbrev pub invariant-loop-row : goal.invariant-loop-row
invariant-loop-row l = Clearing l.rows l.width l.column l.row (stored l.width l.fn.table) (stored l.width l.table)

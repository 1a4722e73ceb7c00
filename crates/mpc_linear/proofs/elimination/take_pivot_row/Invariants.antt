use Rattle.mpc_linear.specs.Stored.{stored}
use Rattle.mpc_linear.proofs.Steps.{Taking}
use Rattle.mpc_linear.proofs.elimination.take_pivot_row.Given as goal

abbrev pub invariant-loop-later : goal.invariant-loop-later
invariant-loop-later l = Taking l.rows l.width l.column l.row l.later (stored l.width l.fn.table) (stored l.width l.table)

use Rattle.mpc_linear.specs.Stored.{stored}
use Rattle.mpc_linear.proofs.Steps.{Dividing}
use Rattle.mpc_linear.proofs.elimination.divide_pivot_row.Given as goal

abbrev pub invariant-loop-later : goal.invariant-loop-later
invariant-loop-later l = Dividing l.rows l.width l.column l.later (stored l.width l.fn.table) (stored l.width l.table)

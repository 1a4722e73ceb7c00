use Rattle.mpc_linear.specs.Stored.{stored}
use Rattle.mpc_linear.proofs.Steps.{Exchanging}
use Rattle.mpc_linear.proofs.elimination.exchange_rows.Given as goal

abbrev pub invariant-loop-later : goal.invariant-loop-later
invariant-loop-later l = Exchanging l.rows l.width l.column l.row l.later (stored l.width l.fn.table) (stored l.width l.table)

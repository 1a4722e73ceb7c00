use Rattle.std.proofs.Common.{◌-◌}
use Rattle.mpc_tree.proofs.WholeRows.{AreFirstRows}
use Rattle.mpc_tree.proofs.rows.whole_rows.Given as goal

abbrev pub invariant-loop-row_number : goal.invariant-loop-row_number
invariant-loop-row_number l = AreFirstRows l.qp l.law (l.row_number - 1) l.rows.items

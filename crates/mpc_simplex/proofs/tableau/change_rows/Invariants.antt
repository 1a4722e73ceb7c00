use Rattle.mpc_runs.specs.Exchange.{row_at}
use Rattle.mpc_simplex.proofs.Cells.{RowsSo}
use Rattle.mpc_simplex.proofs.tableau.change_rows.Given as goal

abbrev pub invariant-loop-target : goal.invariant-loop-target
invariant-loop-target l = RowsSo l.width l.initial.entries l.entries (row_at l.row) l.pivot_row l.pivot_column l.target

use Rattle.mpc_sweep.specs.Steps.{AreWritten, IsScaled}
use Rattle.mpc_sweep.proofs.rows.write_scaled_row.Given as goal

abbrev pub invariant-loop-column : goal.invariant-loop-column
invariant-loop-column l = AreWritten l.most l.first l.column (IsScaled l.by.den l.size l.row) l.fn.out l.out

use Rattle.mpc_sweep.specs.Steps.{AreWritten, IsOwn}
use Rattle.mpc_sweep.proofs.rows.write_pivot_row.Given as goal

abbrev pub invariant-loop-column : goal.invariant-loop-column
invariant-loop-column l = AreWritten l.step.most l.first l.column (IsOwn l.step.den l.step.by.den l.top l.step.pivot_place) l.fn.out l.out

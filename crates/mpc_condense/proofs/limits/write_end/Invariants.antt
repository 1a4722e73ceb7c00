use Rattle.mpc_condense.specs.Condensed.{terminal_row}
use Rattle.mpc_condense.specs.Rows.{RowsDone}
use Rattle.mpc_condense.specs.Causes.{RowsFit}
use Rattle.mpc_condense.proofs.limits.write_end.Given as goal

abbrev pub invariant-loop-place : goal.invariant-loop-place
invariant-loop-place l = record {
  done : RowsDone l.plant l.limits.g l.limits.w (terminal_row l.plant l.place);
  fits : RowsFit l.plant (terminal_row l.plant l.place);
}

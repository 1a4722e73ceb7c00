use Rattle.mpc_condense.specs.Condensed.{stage_row}
use Rattle.mpc_condense.specs.Rows.{RowsDone}
use Rattle.mpc_condense.specs.Causes.{RowsFit}
use Rattle.mpc_condense.proofs.limits.write_stage.Given as goal

abbrev pub invariant-loop-place : goal.invariant-loop-place
invariant-loop-place l = record {
  done : RowsDone l.plant l.limits.g l.limits.w (stage_row l.plant l.step l.place);
  fits : RowsFit l.plant (stage_row l.plant l.step l.place);
}

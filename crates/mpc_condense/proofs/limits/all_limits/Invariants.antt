use Rattle.mpc_condense.specs.Condensed.{stage_row}
use Rattle.mpc_condense.specs.Rows.{RowsDone}
use Rattle.mpc_condense.specs.Causes.{RowsFit}
use Rattle.mpc_condense.proofs.limits.all_limits.Given as goal

abbrev pub invariant-loop-step : goal.invariant-loop-step
invariant-loop-step l = record {
  done : RowsDone l.plant l.limits.g l.limits.w (stage_row l.plant l.step 0);
  fits : RowsFit l.plant (stage_row l.plant l.step 0);
}

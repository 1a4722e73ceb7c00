use Rattle.mpc_condense.specs.Condensed.{stage_row}
use Rattle.mpc_tight.specs.Tightening.{RowsFit}
use Rattle.mpc_tight.specs.Tightened.{RowsTightened}
use Rattle.mpc_tight.proofs.tightening.tightened.Given as goal

abbrev pub invariant-loop-step : goal.invariant-loop-step
invariant-loop-step l = record {
  done : RowsTightened l.plant l.noise l.old l.sides (stage_row l.plant l.step 0);
  fits : RowsFit l.plant l.noise l.old (stage_row l.plant l.step 0);
}

use Rattle.std.proofs.Common.{◌+◌}
use Rattle.mpc_condense.specs.MotionList.{AreMotions}
use Rattle.mpc_condense.specs.Causes.{StatesFit}
use Rattle.mpc_condense.proofs.motions.motions.Given as goal

abbrev pub invariant-loop-step : goal.invariant-loop-step
invariant-loop-step l = record {
  all : AreMotions l.plant l.all.items (l.step + 1);
  fits : StatesFit l.plant l.step;
}

use Rattle.mpc_condense.specs.Motion.{kernel}
use Rattle.mpc_condense.specs.Stages.{HoldsSums}
use Rattle.mpc_condense.specs.Causes.{CostsFit}
use Rattle.mpc_condense.proofs.costs.costs.Given as goal

abbrev pub invariant-loop-step : goal.invariant-loop-step
invariant-loop-step l = record {
  sums : HoldsSums l.plant (kernel l.plant l.step) l.cost.h l.cost.f l.cost.y;
  fits : CostsFit l.plant l.step;
}

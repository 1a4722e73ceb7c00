use Rattle.std.proofs.Common.{refl, arith}
use Rattle.mpc_condense.proofs.Sums.{costs_more}
use Rattle.mpc_condense.proofs.WidePlaces.{wide_cost}
use Rattle.mpc_condense.proofs.costs.costs.Goals as goal

pub returns-in-Err-TooWide-clause-cause : goal.returns-in-Err-TooWide-clause-cause
returns-in-Err-TooWide-clause-cause c =
    let plant = c.args.plant.now in
    let wide = rw c.in-Err-TooWide.field-0-is at c.in-Err-TooWide.ensures.wide in
    wide_cost plant 0 0 refl (omega arith) c.requires.states (λ k l. absurd (omega arith)) (λ f. wide (f.goal (omega (arith, plant.is_plant.steps.from_low))))

pub loop-step-preserved : goal.loop-step-preserved
loop-step-preserved c = record {
  sums = c.in-Ok-add_move.ensures.ok;
  fits = costs_more c.args.plant.now c.loop-step.step c.loop-step.step (omega arith) (record { distance = c.in-Ok-add_stage.ensures.wide.0; weights = c.in-Ok-add_stage.ensures.wide.1; sums = c.in-Ok-add_stage.ensures.wide.2; goal = λ _. c.in-Ok.ensures.wide; moves = λ _. c.in-Ok-add_move.ensures.wide }) c.loop-step.invariant.fits;
}

pub returns-in-Ok-add_stage-2-clause-fits : goal.returns-in-Ok-add_stage-2-clause-fits
returns-in-Ok-add_stage-2-clause-fits c =
    costs_more c.args.plant.now c.args.plant.now.horizon c.loop-step.step (omega arith) (record { distance = c.in-Ok-add_stage-2.ensures.wide.0; weights = c.in-Ok-add_stage-2.ensures.wide.1; sums = c.in-Ok-add_stage-2.ensures.wide.2; goal = λ l. absurd (omega arith); moves = λ l. absurd (omega arith) }) c.loop-step.invariant.fits

pub returns-in-Err-TooWide-add_stage-2-clause-cause : goal.returns-in-Err-TooWide-add_stage-2-clause-cause
returns-in-Err-TooWide-add_stage-2-clause-cause c =
    let wide = rw c.in-Err-TooWide-add_stage-2.field-0-is at c.in-Err-TooWide-add_stage-2.ensures.wide in
    wide_cost c.args.plant.now c.args.plant.now.horizon c.args.plant.now.horizon refl (omega arith) c.requires.states (λ k l. c.loop-step.invariant.fits k (omega arith)) (λ f. wide (f.distance, f.weights, f.sums))

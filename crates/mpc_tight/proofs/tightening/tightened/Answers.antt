use Rattle.std.proofs.Common.{◌≡◌, ◌+◌, arith, subst}
use Rattle.mpc_condense.specs.Condensed.{stage_row}
use Rattle.mpc_condense.specs.Causes.{row_count}
use Rattle.mpc_tight.specs.Tightening.{RowsFit}
use Rattle.mpc_tight.specs.Tightened.{RowsTightened}
use Rattle.mpc_tight.proofs.ProgramShapes.{starts_tightened, starts_fit}
use Rattle.mpc_tight.proofs.tightening.tightened.Goals as goal

pub loop-step-init : goal.loop-step-init
loop-step-init c = record {
  done = starts_tightened c.args.plant.now c.args.noise.now c.args.old.now c.in_ok-sides.sides c.in_ok-sides.ensures (row_count c.args.plant.now) (c.args.plant.now.n + 1) c.requires.shape;
  fits = starts_fit c.args.plant.now c.args.noise.now c.args.old.now c.in_ok-sides.sides;
}

pub tighten_end-requires-clause-done : goal.tighten_end-requires-clause-done
tighten_end-requires-clause-done c =
    let e : c.loop-step.step ≡ c.args.plant.now.horizon = omega arith in
    subst (λ z. RowsTightened c.args.plant.now c.args.noise.now c.args.old.now c.loop-step.sides (stage_row c.args.plant.now z 0)) e c.loop-step.invariant.done

pub tighten_end-requires-clause-fits : goal.tighten_end-requires-clause-fits
tighten_end-requires-clause-fits c =
    let e : c.loop-step.step ≡ c.args.plant.now.horizon = omega arith in
    subst (λ z. RowsFit c.args.plant.now c.args.noise.now c.args.old.now (stage_row c.args.plant.now z 0)) e c.loop-step.invariant.fits

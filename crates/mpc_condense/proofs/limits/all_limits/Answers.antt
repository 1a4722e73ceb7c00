use Rattle.std.proofs.Common.{◌≡◌, arith, subst}
use Rattle.mpc_condense.specs.Condensed.{stage_row}
use Rattle.mpc_condense.specs.Rows.{RowsDone}
use Rattle.mpc_condense.specs.Causes.{RowsFit}
use Rattle.mpc_condense.proofs.limits.all_limits.Goals as goal

pub write_end-requires-clause-done : goal.write_end-requires-clause-done
write_end-requires-clause-done c =
    let e : c.loop-step.step ≡ c.args.plant.now.horizon = omega arith in
    subst (λ z. RowsDone c.args.plant.now c.loop-step.limits.g c.loop-step.limits.w (stage_row c.args.plant.now z 0)) e c.loop-step.invariant.done

pub write_end-requires-clause-rows : goal.write_end-requires-clause-rows
write_end-requires-clause-rows c =
    let e : c.loop-step.step ≡ c.args.plant.now.horizon = omega arith in
    subst (λ z. RowsFit c.args.plant.now (stage_row c.args.plant.now z 0)) e c.loop-step.invariant.fits

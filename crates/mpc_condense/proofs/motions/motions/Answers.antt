use Rattle.std.proofs.Common.{◌+◌, arith}
use Rattle.mpc_condense.proofs.Advance.{are_more, states_more}
use Rattle.mpc_condense.proofs.WidePlaces.{wide_state}
use Rattle.mpc_condense.proofs.motions.motions.Goals as goal

pub loop-step-preserved : goal.loop-step-preserved
loop-step-preserved c = record {
  all = are_more c.args.plant.now c.loop-step.all.items c.push-in-loop-step.new.self.items c.in-Ok-advance.next (c.loop-step.step + 1) c.in-Ok-push.ensures.items c.in-Ok-advance.ensures.next c.loop-step.invariant.all;
  fits = states_more c.args.plant.now c.loop-step.step c.in-Ok-advance.ensures.wide c.loop-step.invariant.fits;
}

pub returns-in-Err-TooWide-clause-cause : goal.returns-in-Err-TooWide-clause-cause
returns-in-Err-TooWide-clause-cause c =
    let wide = rw c.in-Err-TooWide.field-0-is at c.in-Err-TooWide.ensures.wide in
    wide_state c.args.plant.now c.loop-step.step (omega arith) c.loop-step.invariant.fits wide

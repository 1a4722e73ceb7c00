use Rattle.mpc_workers.proofs.Foreseen.{stay_popped}
use Rattle.mpc_workers.proofs.ahead.forget_before.Goals as goal

pub loop-init : goal.loop-init
loop-init c = λ qp a. a

pub returns-then-first_place-place : goal.returns-then-first_place-place
returns-then-first_place-place c = c.loop.invariant

pub loop-preserved : goal.loop-preserved
loop-preserved c = stay_popped c.args.known.now.items c.loop.known.items _ c.loop.invariant c.pop_front.ensures.rest

pub returns : goal.returns
returns c = c.loop.invariant

use Rattle.std.proofs.Common.{◌≡◌, ◌∙◌, ap, arith}
use Rattle.mpc_online.specs.Wholes.{first_of}
use Rattle.mpc_online.proofs.Filled.{filled_none, filled_more, filled_listed}
use Rattle.mpc_online.proofs.points.entries.Goals as goal

pub loop-place-init : goal.loop-place-init
loop-place-init c = filled_none _ _ c.in_ok-out.ensures.items

pub loop-place-preserved : goal.loop-place-preserved
loop-place-preserved c = filled_more _ _ _ _ _ c.in_ok-push.ensures.items c.entry.ensures c.loop-place.invariant

pub returns : goal.returns
returns c =
    let last : c.loop-place.place ≡ c.args.count = omega (arith, c.loop-place-test.false, c.loop-place.auto.place-end) in
    filled_listed c.loop-place.out.items c.loop-place.place _ c.loop-place.invariant ∙ ap (first_of c.args.numbers.now) last

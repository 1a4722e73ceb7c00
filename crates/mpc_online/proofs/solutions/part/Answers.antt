use Rattle.std.proofs.Common.{◌≡◌, ◌+◌, ◌∙◌, ap, arith}
use Rattle.mpc_space.specs.Vector.{listed}
use Rattle.mpc_space.specs.Matrix.{entry}
use Rattle.mpc_online.proofs.Filled.{filled_none, filled_more, filled_listed}
use Rattle.mpc_online.proofs.solutions.part.Goals as goal

pub loop-index-init : goal.loop-index-init
loop-index-init c = filled_none _ _ c.in_ok-out.ensures.items

pub loop-index-preserved : goal.loop-index-preserved
loop-index-preserved c = filled_more _ _ _ _ _ c.in_ok-push.ensures.items c.get.ensures c.loop-index.invariant

pub returns : goal.returns
returns c =
    let last : c.loop-index.index ≡ c.args.count = omega (arith, c.loop-index-test.false, c.loop-index.auto.index-end) in
    filled_listed c.loop-index.out.items c.loop-index.index _ c.loop-index.invariant ∙ ap (λ n. listed n (λ i. entry c.args.solved.now (c.args.first + i) 0)) last

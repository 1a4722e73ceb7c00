use Rattle.std.proofs.Common.{◌≤◌, below_more, le_trans, arith}
use Rattle.mpc_beginnings.specs.RunLists.{weight_of}
use Rattle.mpc_beginnings.proofs.lists.top_weight.Goals as goal

pub loop-unknown-preserved : goal.loop-unknown-preserved
loop-unknown-preserved c =
    below_more (λ j. weight_of c.args.lists.now c.args.product j ≤ c.max-top.result) c.loop-unknown.unknown
    (λ j h. le_trans (c.loop-unknown.invariant j h) (let e = c.max-top.ensures in omega arith))
    (let e = c.max-top.ensures in let w = c.weight_at.ensures in omega arith)

pub loop-unknown-init : goal.loop-unknown-init
loop-unknown-init c = λ j h. absurd (omega arith)

pub returns : goal.returns
returns c = λ j h. c.loop-unknown.invariant j (let t = c.loop-unknown-test.false in omega arith)

use Rattle.std.proofs.Common.{◌∙◌}
use Rattle.mpc_bench.specs.Digests.{sum_digit}
use Rattle.mpc_bench.proofs.DigestLemmas.{none_mixed, one_more, digit_at}
use Rattle.mpc_bench.proofs.repeats.sum_pass.Goals as goal

pub loop-k-init : goal.loop-k-init
loop-k-init c = none_mixed _ _

pub loop-k-preserved : goal.loop-k-preserved
loop-k-preserved c =
    one_more _ c.loop-k.k c.args.digest c.loop-k.digest c.sum_digit.result c.mixed-digest.result c.mixed-digest.ensures c.loop-k.invariant
    (c.sum_digit.ensures ∙ digit_at sum_digit c.args.left.now c.args.right.now c.loop-k.k _ _ c.type_inv.left c.type_inv.right c.loop-k-test.true)

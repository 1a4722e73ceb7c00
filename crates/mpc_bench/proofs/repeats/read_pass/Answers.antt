use Rattle.std.proofs.Common.{◌∙◌, ap}
use Rattle.mpc_bench.specs.Digests.{number_digit, number_at}
use Rattle.mpc_bench.proofs.DigestLemmas.{none_mixed, one_more}
use Rattle.mpc_bench.proofs.repeats.read_pass.Goals as goal

pub loop-k-init : goal.loop-k-init
loop-k-init c = none_mixed _ _

pub loop-k-preserved : goal.loop-k-preserved
loop-k-preserved c =
    one_more (λ place. number_digit (number_at c.args.parts.now place)) c.loop-k.k c.args.digest c.loop-k.digest c.number_digit.result c.mixed-digest.result c.mixed-digest.ensures c.loop-k.invariant
    (c.number_digit.ensures ∙ ap number_digit c.fraction_at.ensures)

use Rattle.std.proofs.Common.{◌∙◌}
use Rattle.mpc_bench.specs.Digests.{paired, order_digit}
use Rattle.mpc_bench.proofs.DigestLemmas.{no_pass, pass_more, loaded_digits}
use Rattle.mpc_bench.proofs.fractions.mpc_frac_repeat_orders.Goals as goal

pub rounds-init : goal.rounds-init
rounds-init c = no_pass _

pub rounds-preserved : goal.rounds-preserved
rounds-preserved c =
    pass_more (paired order_digit c.args.left.now c.args.right.now) c.rounds.counter c.rounds.digest c.order_pass-digest.result
    (c.order_pass-digest.ensures ∙ loaded_digits order_digit c.args.left.now c.args.right.now _ _ c.loaded-left_numbers.ensures c.loaded-right_numbers.ensures c.rounds.digest) c.rounds.invariant

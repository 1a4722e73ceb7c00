use Rattle.std.proofs.Common.{◌∙◌}
use Rattle.mpc_bench.specs.Digests.{paired, product_digit}
use Rattle.mpc_bench.proofs.DigestLemmas.{no_pass, pass_more, loaded_digits}
use Rattle.mpc_bench.proofs.fractions.mpc_frac_repeat_products.Goals as goal

pub rounds-init : goal.rounds-init
rounds-init c = no_pass _

pub rounds-preserved : goal.rounds-preserved
rounds-preserved c =
    pass_more (paired product_digit c.args.left.now c.args.right.now) c.rounds.counter c.rounds.digest c.product_pass-digest.result
    (c.product_pass-digest.ensures ∙ loaded_digits product_digit c.args.left.now c.args.right.now _ _ c.loaded-left_numbers.ensures c.loaded-right_numbers.ensures c.rounds.digest) c.rounds.invariant

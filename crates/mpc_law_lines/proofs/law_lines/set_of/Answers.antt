use Rattle.std.proofs.Common.{arith, sym, ◌∙◌}
use Rattle.mpc_law_lines.proofs.FormLemmas.{plain, one_member_more, no_set}
use Rattle.mpc_law_lines.proofs.law_lines.set_of.Goals as goal

pub overflow_add-last : goal.overflow_add-last
overflow_add-last c = omega (arith, c.loop-number.invariant.within, c.requires.few)

pub returns-in_default : goal.returns-in_default
returns-in_default c = no_set c.args.rows c.args.numbers.now c.loop-number.number-index c.loop-number.set c.loop-number.last c.loop-number.invariant c.loop-number-test.true
    (λ k is above within. c.in_default.ensures k (record { from_low = omega arith; to_high = omega (arith, within, c.from.ensures) }) (plain c.args.numbers.now c.loop-number.number-index c.requires.small c.loop-number-test.true ∙ is))

pub loop-number-preserved : goal.loop-number-preserved
loop-number-preserved c =
    one_member_more c.member_theorems.ensures c.args.rows c.args.numbers.now c.loop-number.number-index c.loop-number.set c.with-set.result c.loop-number.last c.in-Some.row c.loop-number.invariant c.loop-number-test.true
    (sym (plain c.args.numbers.now c.loop-number.number-index c.requires.small c.loop-number-test.true) ∙ c.in-Some.ensures.1) (omega (arith, c.in-Some.ensures.0.from_low)) (omega (arith, c.in-Some.ensures.0.to_high, c.from.ensures)) c.with-set.ensures.value

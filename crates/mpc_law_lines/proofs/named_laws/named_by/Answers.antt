use Rattle.std.proofs.Common.{arith, sym, ◌∙◌}
use Rattle.mpc_law_lines.proofs.FormLemmas.{plain, one_number_more, none_named}
use Rattle.mpc_law_lines.proofs.named_laws.named_by.Goals as goal

pub returns-in_default : goal.returns-in_default
returns-in_default c = none_named c.args.all c.args.used c.args.integers.now c.loop-integer.integer-index c.loop-integer.numbers c.loop-integer.last c.loop-integer.invariant c.loop-integer-test.true
    (λ k is from_one to_all next. c.in_default.ensures k (record { from_low = from_one; to_high = c.greatest_number.ensures.greatest k to_all next }) (plain c.args.integers.now c.loop-integer.integer-index c.requires c.loop-integer-test.true ∙ is))

pub loop-integer-preserved : goal.loop-integer-preserved
loop-integer-preserved c =
    one_number_more c.args.all c.args.used c.args.integers.now c.loop-integer.integer-index c.loop-integer.numbers c.push.new.self c.loop-integer.last c.in-Some.number c.used_now-last.result c.loop-integer.invariant c.loop-integer-test.true
    (sym (plain c.args.integers.now c.loop-integer.integer-index c.requires c.loop-integer-test.true) ∙ c.in-Some.ensures.1) c.in-Some.ensures.0.from_low (omega (arith, c.in-Some.ensures.0.to_high, c.greatest_number.ensures.within)) (omega (arith, c.in-Some.ensures.0.to_high, c.greatest_number.ensures.next))
    c.in_ok-push.ensures.ok c.used_now-last.ensures

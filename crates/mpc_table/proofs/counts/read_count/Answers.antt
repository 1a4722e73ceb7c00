use Rattle.std.proofs.Common.{◌+◌, ◌*◌, ◌-◌, get_or, sym, ◌∙◌, subst, arith}
use Rattle.std.proofs.lemmas.Bool.Decides.{nat_tests}
use Rattle.mpc_table.proofs.CountLemmas.{IsRead, count_none_empty, count_none_long, count_none_digit, count_some, read_none, read_more, read_fits}
use Rattle.mpc_table.proofs.counts.read_count.Goals as goal

pub loop-digit-init : goal.loop-digit-init
loop-digit-init c = read_none c.args.text.now

pub loop-digit-preserved : goal.loop-digit-preserved
loop-digit-preserved c =
    let text = c.args.text.now in
    let i = c.loop-digit.digit-index in
    let h : IsRead text (i + 1) (c.loop-digit.value * 10 + (get_or text i 0 - 48)) = read_more text i c.loop-digit.value c.loop-digit.invariant c.loop-digit-test.true (sym c.is_ascii_digit.ensures.value ∙ c.if-not-is_ascii_digit.false) in
    subst (λ d. IsRead text (i + 1) (c.loop-digit.value * 10 + d)) (sym c.from.ensures) h

pub overflow_mul-value : goal.overflow_mul-value
overflow_mul-value c =
    let h = read_fits c.args.text.now c.loop-digit.digit-index c.loop-digit.value c.loop-digit.invariant (omega arith) (sym c.is_ascii_digit.ensures.value ∙ c.if-not-is_ascii_digit.false) in
    omega (arith, h)

pub overflow_add-value : goal.overflow_add-value
overflow_add-value c =
    let h = read_fits c.args.text.now c.loop-digit.digit-index c.loop-digit.value c.loop-digit.invariant (omega arith) (sym c.is_ascii_digit.ensures.value ∙ c.if-not-is_ascii_digit.false) in
    omega (arith, h)

pub returns-then-is_empty : goal.returns-then-is_empty
returns-then-is_empty c = sym (count_none_empty c.args.text.now (let h = sym c.is_empty.ensures ∙ c.if-is_empty.true in grind (arith, nat_tests)))

pub returns-then-text-gt-MAX_DIGITS : goal.returns-then-text-gt-MAX_DIGITS
returns-then-text-gt-MAX_DIGITS c = sym (count_none_long c.args.text.now c.if-text-gt-MAX_DIGITS.true)

pub returns-then-not-is_ascii_digit : goal.returns-then-not-is_ascii_digit
returns-then-not-is_ascii_digit c = sym (count_none_digit c.args.text.now c.loop-digit.digit-index c.loop-digit-test.true (sym c.is_ascii_digit.ensures.value ∙ c.if-not-is_ascii_digit.true))

pub returns : goal.returns
returns c =
    sym (count_some c.args.text.now c.loop-digit.digit-index c.loop-digit.value (grind (arith, nat_tests)) c.if-text-gt-MAX_DIGITS.false c.loop-digit-test.false c.loop-digit.invariant)

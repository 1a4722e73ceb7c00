use Rattle.std.proofs.Common.{◌-◌, get_or, refl, arith}
use Rattle.mpc_words.proofs.NumeralLemmas.{digit_low, next_value, next_short}
use Rattle.mpc_words.proofs.naturals.short_value.Goals as goal

pub overflow_sub-digit : goal.overflow_sub-digit
overflow_sub-digit c = digit_low c.args.digits.now c.loop-digit.digit-index c.loop-digit-test.true c.requires.digits

pub overflow_mul-value : goal.overflow_mul-value
overflow_mul-value c =
    let short = next_short c.args.digits.now c.loop-digit.digit-index c.loop-digit-test.true c.requires.digits c.loop-digit.value (get_or c.args.digits.now c.loop-digit.digit-index 0 - 48) c.loop-digit.invariant refl c.requires.few in
    omega arith

pub overflow_add-value : goal.overflow_add-value
overflow_add-value c =
    let short = next_short c.args.digits.now c.loop-digit.digit-index c.loop-digit-test.true c.requires.digits c.loop-digit.value c.from.result c.loop-digit.invariant c.from.ensures c.requires.few in
    omega arith

pub loop-digit-preserved : goal.loop-digit-preserved
loop-digit-preserved c =
    next_value c.args.digits.now c.loop-digit.digit-index c.loop-digit-test.true c.requires.digits c.loop-digit.value c.from.result c.loop-digit.invariant c.from.ensures

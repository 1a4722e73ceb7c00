use Rattle.std.proofs.Common.{arith}
use Rattle.mpc_words.proofs.NumeralLemmas.{digit_low, next_value, too_large, next_too_large}
use Rattle.mpc_words.proofs.naturals.small_value.Goals as goal

pub returns-then-value : goal.returns-then-value
returns-then-value c =
    too_large c.args.digits.now c.loop-place.place c.loop-place-test.true c.requires c.loop-place.value c.loop-place.invariant.value c.if-value.true

pub overflow_sub-digits : goal.overflow_sub-digits
overflow_sub-digits c = digit_low c.args.digits.now c.loop-place.place c.loop-place-test.true c.requires

pub returns-then-next-gt-LARGEST : goal.returns-then-next-gt-LARGEST
returns-then-next-gt-LARGEST c =
    next_too_large c.args.digits.now c.loop-place.place c.loop-place-test.true c.requires c.loop-place.value c.from.result c.loop-place.invariant.value c.from.ensures c.if-next-gt-LARGEST.true

pub loop-place-preserved : goal.loop-place-preserved
loop-place-preserved c = record {
  value = next_value c.args.digits.now c.loop-place.place c.loop-place-test.true c.requires c.loop-place.value c.from.result c.loop-place.invariant.value c.from.ensures;
  small = omega (arith, c.if-next-gt-LARGEST.false);
}

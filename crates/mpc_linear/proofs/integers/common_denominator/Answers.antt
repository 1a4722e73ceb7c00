use Rattle.std.proofs.Common.{◌^◌, sym, lit<}
use Rattle.mpc_exact.proofs.Denominator.{common_denom-nil}
use Rattle.mpc_linear.proofs.WholeLemmas.{denom-positive, denom_all, denom_more, denom_wide}
use Rattle.mpc_linear.proofs.integers.common_denominator.Goals as goal

pub loop-fraction-init : goal.loop-fraction-init
loop-fraction-init c = record { value = sym common_denom-nil; small = lit< tt }

pub least_multiple-requires-clause-a_positive : goal.least_multiple-requires-clause-a_positive
least_multiple-requires-clause-a_positive c = denom-positive _ c.loop-fraction.all c.loop-fraction.invariant.value

pub loop-fraction-preserved : goal.loop-fraction-preserved
loop-fraction-preserved c = record {
  value = denom_more c.args.fractions.now c.loop-fraction.fraction-index c.loop-fraction.all _ _ c.loop-fraction-test.true c.loop-fraction.invariant.value c.fraction-item.is c.denominator.ensures.value c.in-Some.multiple c.in-Some.ensures.value;
  small = c.in-Some.ensures.small;
}

pub returns-in-None-clause-value : goal.returns-in-None-clause-value
returns-in-None-clause-value c = denom_wide c.args.fractions.now c.loop-fraction.fraction-index c.loop-fraction.all _ _ c.loop-fraction-test.true c.loop-fraction.invariant.value c.fraction-item.is c.denominator.ensures.value (2 ^ 127) c.in-None.ensures.value

pub returns-in-None-clause-small : goal.returns-in-None-clause-small
returns-in-None-clause-small c = denom_wide c.args.fractions.now c.loop-fraction.fraction-index c.loop-fraction.all _ _ c.loop-fraction-test.true c.loop-fraction.invariant.value c.fraction-item.is c.denominator.ensures.value (2 ^ 127) c.in-None.ensures.value

pub returns-clause-value : goal.returns-clause-value
returns-clause-value c = denom_all _ _ _ c.loop-fraction-test.false c.loop-fraction.invariant.value

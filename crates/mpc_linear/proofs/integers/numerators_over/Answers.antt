use Rattle.std.proofs.Common.{◌∙◌, ◌≤◌, ap, map, arith}
use Rattle.std.proofs.lemmas.List.{take_all}
use Rattle.mpc_linear.specs.Whole.{scaled}
use Rattle.mpc_space.proofs.Words.{read_back}
use Rattle.mpc_linear.proofs.WholeLemmas.{numerators_more, fit_more}
use Rattle.mpc_linear.proofs.integers.numerators_over.Goals as goal

pub loop-fraction-init : goal.loop-fraction-init
loop-fraction-init c = record { value = c.in_ok-numerators.ensures.empty; fit = λ j d l. absurd (omega arith) }

pub loop-fraction-preserved : goal.loop-fraction-preserved
loop-fraction-preserved c = record {
  value = numerators_more c.args.all c.args.fractions.now c.loop-fraction.fraction-index _ c.loop-fraction-test.true c.fraction-item.is c.loop-fraction.numerators _ _ c.loop-fraction.invariant.value c.in_ok-push.ensures.ok (read_back c.in-Some.numerator c.in-Some.ensures.small ∙ c.in-Some.ensures.value);
  fit = fit_more c.args.all c.args.fractions.now c.loop-fraction.fraction-index _ c.loop-fraction-test.true c.fraction-item.is c.in-Some.numerator c.in-Some.ensures.value c.in-Some.ensures.small c.loop-fraction.invariant.fit;
}

pub returns-clause-value : goal.returns-clause-value
returns-clause-value c = c.loop-fraction.invariant.value ∙ ap (map (scaled c.args.all)) (take_all c.loop-fraction.fraction-index c.args.fractions.now c.loop-fraction-test.false)

pub returns-clause-wide : goal.returns-clause-wide
returns-clause-wide c k d h = c.loop-fraction.invariant.fit k d (let l : _ ≤ c.loop-fraction.fraction-index = c.loop-fraction-test.false in omega arith)

use Rattle.std.proofs.Common.{rules, ◌*◌, ◌∙◌}
use Rattle.std.proofs.lemmas.Result.{MatchResult-from_err}
use Rattle.mpc_frac.proofs.FracMul.{wide_size, wide_denom, size_computed, denom_computed, product_fits}
use Rattle.mpc_frac.proofs.Frac.wide_product.Goals as goal

pub returns-in_err-size-clause-wide : goal.returns-in_err-size-clause-wide
returns-in_err-size-clause-wide c =
    let e = (λ i. c.part.ensures i * c.part-2.ensures i) ∙ size_computed c.args.self.now c.args.other.now _ _ _ _ _ _ c.size.ensures.value c.size-2.ensures.value c.below-2.ensures.value c.below.ensures.value c.greatest_common_divisor-left.ensures.value c.greatest_common_divisor-right.ensures.value _ _ c.size-3.ensures.value c.size-4.ensures.value in
    MatchResult-from_err c.from_residual.result _ _ (search rules) (λ _. wide_size _ _ _ e c.in_err-size.ensures.value)

pub returns-in_err-den-clause-wide : goal.returns-in_err-den-clause-wide
returns-in_err-den-clause-wide c =
    let e = (λ i. c.part-3.ensures i * c.part-4.ensures i) ∙ denom_computed c.args.self.now c.args.other.now _ _ _ _ _ _ c.size.ensures.value c.size-2.ensures.value c.below-2.ensures.value c.below.ensures.value c.greatest_common_divisor-left.ensures.value c.greatest_common_divisor-right.ensures.value _ _ c.below-3.ensures.value c.below-4.ensures.value in
    MatchResult-from_err c.from_residual-in_err-den.result _ _ (search rules) (λ _. wide_denom _ _ _ e c.in_err-den.ensures.value)

pub returns-clause-wide : goal.returns-clause-wide
returns-clause-wide c = product_fits c.args.self.now c.args.other.now c.in_ok-size.size c.in_ok-den.den (search rules) (search rules) c.in_ok-size.ensures.small c.in_ok-den.ensures.small

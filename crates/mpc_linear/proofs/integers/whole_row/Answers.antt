use Rattle.std.proofs.Common.{◌≡◌, ◌∙◌, ◌^◌, ◌<◌, ◌≤◌, ◌++◌, [], ◌∷◌, refl, sym, subst, subst₂, unsigned_abs}
use Rattle.std.proofs.lemmas.Result.{err_from_is_err_and}
use Rattle.mpc_exact.specs.Gcd.{lcm}
use Rattle.mpc_exact.specs.Denominator.{common_denom}
use Rattle.mpc_linear.specs.Whole.{IsScaledRow, WholeFits}
use Rattle.mpc_space.proofs.Words.{read_back}
use Rattle.mpc_linear.proofs.Outcomes.{IfWide-weaker}
use Rattle.mpc_linear.proofs.WholeLemmas.{denom-positive}
use Rattle.mpc_linear.proofs.PrimitiveLemmas.{row_denom-positive, scaled_row, row_fits, entries_unfit, side_unfit, lcm_unfit, front_unfit, small_row}
use Rattle.mpc_linear.proofs.integers.whole_row.Goals as goal
use Rattle.mpc_linear.proofs.integers.whole_row.Goals.{In-Some-least_multiple}

pub returns-in_default-clause-wide : goal.returns-in_default-clause-wide
returns-in_default-clause-wide c = (refl, front_unfit c.args.coefficients.now c.args.bound.now c.in_default.ensures.value)

pub least_multiple-requires-clause-a_positive : goal.least_multiple-requires-clause-a_positive
least_multiple-requires-clause-a_positive c = denom-positive c.args.coefficients.now c.in-Some.front c.in-Some.ensures.value

pub returns-in_default-least_multiple-clause-wide : goal.returns-in_default-least_multiple-clause-wide
returns-in_default-least_multiple-clause-wide c =
    (refl, lcm_unfit c.args.coefficients.now c.args.bound.now (subst₂ (λ x y. 2 ^ 127 ≤ lcm x y) c.in-Some.ensures.value c.denominator.ensures.value c.in_default-least_multiple.ensures.value))

all : (c : In-Some-least_multiple) → c.in-Some-least_multiple.all ≡ lcm (common_denom c.args.coefficients.now) c.args.bound.now.denom
all c = c.in-Some-least_multiple.ensures.value ∙ (λ i. lcm (c.in-Some.ensures.value i) (c.denominator.ensures.value i))

pub numerator_over-requires-clause-positive : goal.numerator_over-requires-clause-positive
numerator_over-requires-clause-positive c = row_denom-positive c.args.coefficients.now c.args.bound.now c.in-Some-least_multiple.all (all (goal.at.numerator_over-requires-clause-positive c).In-Some-least_multiple)

pub returns-in_default-numerator_over-clause-wide : goal.returns-in_default-numerator_over-clause-wide
returns-in_default-numerator_over-clause-wide c =
    (refl, side_unfit c.args.coefficients.now c.args.bound.now c.in-Some-least_multiple.all (all (goal.at.returns-in_default-numerator_over-clause-wide c).In-Some-least_multiple) c.in_default-numerator_over.ensures.value)

pub numerators_over-requires-clause-positive : goal.numerators_over-requires-clause-positive
numerators_over-requires-clause-positive c = row_denom-positive c.args.coefficients.now c.args.bound.now c.in-Some-least_multiple.all (all (goal.at.numerators_over-requires-clause-positive c).In-Some-least_multiple)

pub returns-in_err-row-clause-wide : goal.returns-in_err-row-clause-wide
returns-in_err-row-clause-wide c =
    let p = err_from_is_err_and c.from_residual.result c.from_residual.ensures.1 in
    let d = (goal.at.returns-in_err-row-clause-wide c).In-Some-least_multiple in
    rw (p.1, p.2) (IfWide-weaker _ _ (λ step. (step ≡ 0) × (¬ WholeFits (c.args.coefficients.now ++ (c.args.bound.now ∷ [])))) (λ step h. (h.0, entries_unfit c.args.coefficients.now c.args.bound.now c.in-Some-least_multiple.all (all d) h.1)) c.in_err-row.ensures.wide)

pub returns-clause-scaled : goal.returns-clause-scaled
returns-clause-scaled c =
    let d = (goal.at.returns-clause-scaled c).In-Some-least_multiple in
    subst₂ (λ r s. IsScaledRow c.args.coefficients.now c.args.bound.now r s) (sym c.in_ok-row.ensures.value) (sym (read_back c.in-Some-numerator_over.side c.in-Some-numerator_over.ensures.small ∙ c.in-Some-numerator_over.ensures.value))
    (scaled_row c.args.coefficients.now c.args.bound.now c.in-Some-least_multiple.all (all d))

pub returns-clause-small : goal.returns-clause-small
returns-clause-small c = small_row c.in-Some-least_multiple.all c.args.coefficients.now c.in_ok-row.row c.in_ok-row.ensures.value c.in_ok-row.ensures.wide

pub returns-clause-wide : goal.returns-clause-wide
returns-clause-wide c =
    row_fits c.args.coefficients.now c.args.bound.now c.in-Some-least_multiple.all (all (goal.at.returns-clause-wide c).In-Some-least_multiple) c.in-Some-least_multiple.ensures.small c.in_ok-row.ensures.wide
    (subst (λ z. unsigned_abs z < 2 ^ 127) c.in-Some-numerator_over.ensures.value c.in-Some-numerator_over.ensures.small)

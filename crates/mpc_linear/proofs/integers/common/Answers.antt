use Rattle.std.proofs.Common.{◌≡◌, ◌∙◌, ap, pos, map, subst, to_z}
use Rattle.std.specs.Int.{w128}
use Rattle.mpc_exact.specs.Denominator.{common_denom}
use Rattle.mpc_linear.specs.Whole.{scaled, ScaledFit}
use Rattle.mpc_space.proofs.Words.{read_natural}
use Rattle.mpc_linear.proofs.WholeLemmas.{denom-positive, form_is, fits_from}
use Rattle.mpc_linear.proofs.integers.common.Goals as goal
use Rattle.mpc_linear.proofs.integers.common.Goals.{In_ok-numerators}

pub numerators_over-requires-clause-positive : goal.numerators_over-requires-clause-positive
numerators_over-requires-clause-positive c = denom-positive _ c.in-Some.all c.in-Some.ensures.value

denominator : (c : In_ok-numerators) → c.in-Some.all ≡ common_denom c.args.coefficients.now
denominator c = c.in-Some.ensures.value ∙ ap common_denom c.as_slice-entries.ensures

below : (c : In_ok-numerators) → to_z w128 c.in-Some.all ≡ pos (common_denom c.args.coefficients.now)
below c = read_natural c.in-Some.all c.in-Some.ensures.small ∙ ap pos (denominator c)

above : (c : In_ok-numerators) → c.in_ok-numerators.numerators ≡ map (scaled (common_denom c.args.coefficients.now)) c.args.coefficients.now
above c = c.in_ok-numerators.ensures.value ∙ (λ i. map (scaled (denominator c i)) (c.as_slice-entries.ensures i))

pub returns-clause-form : goal.returns-clause-form
returns-clause-form c = form_is c.args.coefficients.now _ _ (below c) (above c)

pub returns-clause-denominator : goal.returns-clause-denominator
returns-clause-denominator c = below c

pub returns-clause-numerators : goal.returns-clause-numerators
returns-clause-numerators c = above c

pub returns-clause-wide : goal.returns-clause-wide
returns-clause-wide c =
    fits_from c.args.coefficients.now c.in-Some.all (denominator c) c.in-Some.ensures.small
    (subst (λ xs. ScaledFit c.in-Some.all xs) c.as_slice-entries.ensures c.in_ok-numerators.ensures.wide)

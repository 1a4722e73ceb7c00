use Rattle.std.proofs.Common.{ap, sym, subst, ◌∙◌, rules}
use Rattle.std.proofs.lemmas.Result.{MatchResult-from_err}
use Rattle.mpc_exact.specs.Rational.{◌-ℚ◌, neg_ℚ}
use Rattle.mpc_frac.specs.Fits.{FitsSum}
use Rattle.mpc_tight.specs.Tightening.{TighteningFits, RowFits}
use Rattle.mpc_tight.proofs.Products.{too_wide_weaker, too_wide}
use Rattle.mpc_tight.proofs.tightening.side_left.Goals as goal

pub returns-in-Err-clause-wide : goal.returns-in-Err-clause-wide
returns-in-Err-clause-wide c =
    too_wide_weaker c.in-Err.error (¬ TighteningFits c.args.plant.now c.args.noise.now c.args.row.now.x c.args.step) (¬ RowFits c.args.plant.now c.args.noise.now c.args.side.now c.args.row.now.x c.args.step)
    (λ f r. f r.tightening_fits) c.in-Err.ensures.wide

pub returns-in_err-rest-clause-wide : goal.returns-in_err-rest-clause-wide
returns-in_err-rest-clause-wide c =
    MatchResult-from_err c.from_residual.result _ _ (search rules)
    (λ e. too_wide e (¬ RowFits c.args.plant.now c.args.noise.now c.args.side.now c.args.row.now.x c.args.step)
    (λ r. c.in_err-rest.ensures.wide (subst (λ x. FitsSum c.args.side.now (neg_ℚ x)) (sym c.in-Ok.ensures.value) r.taken)))

pub returns-clause-value : goal.returns-clause-value
returns-clause-value c = c.in_ok-rest.ensures.value ∙ ap (λ x. c.args.side.now -ℚ x) c.in-Ok.ensures.value

pub returns-clause-wide : goal.returns-clause-wide
returns-clause-wide c = record {
  tightening_fits = c.in-Ok.ensures.wide;
  taken = subst (λ x. FitsSum c.args.side.now (neg_ℚ x)) c.in-Ok.ensures.value c.in_ok-rest.ensures.wide;
}

use Rattle.std.proofs.Common.{ap, sym, subst}
use Rattle.mpc_exact.specs.Rational.{◌+ℚ◌}
use Rattle.mpc_frac.specs.Fits.{FitsSum}
use Rattle.mpc_space.specs.Vector.{dot}
use Rattle.mpc_space.proofs.Outcomes.{value_as, fits_as}
use Rattle.mpc_tight.specs.Disturbed.{sizes}
use Rattle.mpc_tight.specs.Tightening.{AddedFits}
use Rattle.mpc_tight.proofs.tightening.add_effect.Goals as goal

pub returns-in-Ok-clause-value : goal.returns-in-Ok-clause-value
returns-in-Ok-clause-value c =
    value_as c.add.result (c.args.sum.now +ℚ c.in-Ok.most) (c.args.sum.now +ℚ dot (sizes c.args.carried.now) c.args.noise.now) (ap (λ z. c.args.sum.now +ℚ z) c.in-Ok.ensures.value) c.add.ensures.value

pub returns-in-Ok-clause-wide : goal.returns-in-Ok-clause-wide
returns-in-Ok-clause-wide c =
    fits_as c.add.result (FitsSum c.args.sum.now c.in-Ok.most) (AddedFits c.args.sum.now c.args.carried.now c.args.noise.now)
    (λ f. record { products = c.in-Ok.ensures.wide; added = subst (FitsSum c.args.sum.now) c.in-Ok.ensures.value f })
    (λ a. subst (FitsSum c.args.sum.now) (sym c.in-Ok.ensures.value) a.added) c.add.ensures.wide

pub returns-in-Err-clause-wide : goal.returns-in-Err-clause-wide
returns-in-Err-clause-wide c = λ a. c.in-Err.ensures.wide a.products

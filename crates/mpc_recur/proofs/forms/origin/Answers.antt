use Rattle.std.proofs.Common.{arith, sym, subst}
use Rattle.mpc_frac.specs.Fits.{FitsSum}
use Rattle.mpc_space.proofs.Outcomes.{value_as, fits_as}
use Rattle.mpc_recur.proofs.FormLemmas.{shift_value, shift_fits, shift_fits_back}
use Rattle.mpc_recur.proofs.forms.origin.Goals as goal

pub at-requires : goal.at-requires
at-requires c = omega (arith, c.args.plant.now.is_plant.drift_size, c.requires)

pub at-requires-in-Ok : goal.at-requires-in-Ok
at-requires-in-Ok c = omega (arith, c.args.plant.now.is_plant.grid_size, c.requires)

pub returns-in-Ok-clause-value : goal.returns-in-Ok-clause-value
returns-in-Ok-clause-value c =
    value_as c.sub.result _ _ (shift_value c.args.plant.now c.args.index c.at-in-Ok.result.now c.at-in-Ok.ensures c.args.sum.now c.at.result.now c.in-Ok.drifted c.at.ensures c.in-Ok.ensures.value) c.sub.ensures.value

pub returns-in-Ok-clause-wide : goal.returns-in-Ok-clause-wide
returns-in-Ok-clause-wide c =
    fits_as c.sub.result _ _ (shift_fits c.args.plant.now c.args.index c.at-in-Ok.result.now c.at-in-Ok.ensures c.args.sum.now c.at.result.now c.in-Ok.drifted c.at.ensures c.in-Ok.ensures.value c.in-Ok.ensures.wide)
    (shift_fits_back c.args.plant.now c.args.index c.at-in-Ok.result.now c.at-in-Ok.ensures c.args.sum.now c.at.result.now c.in-Ok.drifted c.at.ensures c.in-Ok.ensures.value) c.sub.ensures.wide

pub returns-in-Err-clause-wide : goal.returns-in-Err-clause-wide
returns-in-Err-clause-wide c = λ f. c.in-Err.ensures.wide (subst (FitsSum c.args.sum.now) (sym c.at.ensures) f.drift)

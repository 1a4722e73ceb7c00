use Rattle.std.proofs.Common.{◌≡◌, arith}
use Rattle.mpc_plant.specs.Limits.{IsCoordinate}
use Rattle.mpc_space.proofs.Outcomes.{value_as, fits_as}
use Rattle.mpc_recur.proofs.ElementLemmas.{all_at}
use Rattle.mpc_recur.proofs.LoopLemmas.{step_not_zero}
use Rattle.mpc_recur.proofs.FormLemmas.{first_value, first_fits, first_fits_back}
use Rattle.mpc_recur.proofs.forms.next_coefficient.Goals as goal

pub div-requires-2 : goal.div-requires-2
div-requires-2 c = step_not_zero c.at-axis.result.now (all_at IsCoordinate c.args.plant.now.grid c.args.index c.at-axis.result.now c.at-axis.ensures c.args.plant.now.is_plant.grid_ok)

pub returns-clause-value : goal.returns-clause-value
returns-clause-value c =
    value_as c.div-2.result _ _ (first_value c.args.plant.now c.args.law.now c.args.index c.args.term c.at-axis.result.now c.at-axis.ensures c.in_ok-state.state c.in_ok-moved.moved c.in_ok-state.ensures.value c.in_ok-moved.ensures.value
    c.in_ok-state.ensures.wide c.in_ok-moved.ensures.wide c.in_ok-placed.placed c.in_ok-placed.ensures.value (omega (arith, c.if-term-gt0.false))) c.div-2.ensures.value

pub returns-clause-wide : goal.returns-clause-wide
returns-clause-wide c =
    let zero_is : c.args.term ≡ 0 = omega (arith, c.if-term-gt0.false) in
    fits_as c.div-2.result _ _ (first_fits c.args.plant.now c.args.law.now c.args.index c.args.term c.at-axis.result.now c.at-axis.ensures c.in_ok-state.state c.in_ok-moved.moved c.in_ok-state.ensures.value c.in_ok-moved.ensures.value
    c.in_ok-state.ensures.wide c.in_ok-moved.ensures.wide c.in_ok-placed.placed c.in_ok-placed.ensures.value zero_is c.in_ok-placed.ensures.wide)
    (first_fits_back c.args.plant.now c.args.law.now c.args.index c.args.term c.at-axis.result.now c.at-axis.ensures c.in_ok-state.state c.in_ok-moved.moved c.in_ok-state.ensures.value c.in_ok-moved.ensures.value
    c.in_ok-state.ensures.wide c.in_ok-moved.ensures.wide c.in_ok-placed.placed c.in_ok-placed.ensures.value zero_is) c.div-2.ensures.wide

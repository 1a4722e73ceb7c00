use Rattle.std.proofs.Common.{arith, rules}
use Rattle.std.proofs.lemmas.Result.{MatchResult-from_err}
use Rattle.mpc_condense.proofs.Writing.{fits_as, on_ok_as}
use Rattle.mpc_condense.proofs.Advance.{products_within}
use Rattle.mpc_condense.proofs.Sums.{with_state, sums_fit, h_fits, f_fits, y_fits}
use Rattle.mpc_condense.proofs.costs.add_state.Goals as goal

pub returns-in_err-add_products-clause-wide : goal.returns-in_err-add_products-clause-wide
returns-in_err-add_products-clause-wide c =
    let plant = c.args.plant.now in
    MatchResult-from_err c.from_residual.result _ _ (search rules)
    (λ _ q. c.in_err-add_products.ensures.wide (h_fits plant c.args.step c.args.distance.now.x c.args.distance.now.z c.args.weighted.now.x c.args.weighted.now.z c.args.cost.now.h c.args.cost.now.f c.args.cost.now.y c.requires.distance c.requires.weighted (products_within plant.p c.args.step plant.horizon (omega arith)) c.requires.sums q))

pub returns-in_err-add_products-2-clause-wide : goal.returns-in_err-add_products-2-clause-wide
returns-in_err-add_products-2-clause-wide c =
    let plant = c.args.plant.now in
    MatchResult-from_err c.from_residual-in_err-add_products-2.result _ _ (search rules)
    (λ _ q. c.in_err-add_products-2.ensures.wide (f_fits plant c.args.step c.args.distance.now.x c.args.distance.now.z c.args.weighted.now.x c.args.weighted.now.z c.args.cost.now.h c.args.cost.now.f c.args.cost.now.y c.requires.distance c.requires.weighted (products_within plant.p c.args.step plant.horizon (omega arith)) c.requires.sums q))

pub returns-clause-ok : goal.returns-clause-ok
returns-clause-ok c =
    let plant = c.args.plant.now in
    on_ok_as c.add_products-3.result _ _
    (λ yw. with_state plant c.args.step c.args.distance.now.x c.args.distance.now.z c.args.weighted.now.x c.args.weighted.now.z c.args.cost.now.h c.args.cost.now.f c.args.cost.now.y c.add_products.new.out c.add_products-2.new.out c.add_products-3.new.out c.requires.distance c.requires.weighted (products_within plant.p c.args.step plant.horizon (omega arith)) c.requires.sums c.in_ok-add_products.ensures.ok c.in_ok-add_products-2.ensures.ok yw)
    c.add_products-3.ensures.ok

pub returns-clause-wide : goal.returns-clause-wide
returns-clause-wide c =
    let plant = c.args.plant.now in
    fits_as c.add_products-3.result _ _
    (λ yf. sums_fit plant c.args.step c.args.distance.now.x c.args.distance.now.z c.args.weighted.now.x c.args.weighted.now.z c.args.cost.now.h c.args.cost.now.f c.args.cost.now.y c.requires.distance c.requires.weighted (products_within plant.p c.args.step plant.horizon (omega arith)) c.requires.sums c.in_ok-add_products.ensures.wide c.in_ok-add_products-2.ensures.wide yf)
    (λ q. y_fits plant c.args.step c.args.distance.now.x c.args.distance.now.z c.args.weighted.now.x c.args.weighted.now.z c.args.cost.now.h c.args.cost.now.f c.args.cost.now.y c.requires.distance c.requires.weighted (products_within plant.p c.args.step plant.horizon (omega arith)) c.requires.sums q)
    c.add_products-3.ensures.wide

use Rattle.std.proofs.Common.{arith}
use Rattle.mpc_condense.proofs.Advance.{products_within}
use Rattle.mpc_condense.proofs.Sums.{is_weighted_by, weights_fit}
use Rattle.mpc_condense.proofs.costs.weigh.Goals as goal

pub returns-clause-weighted : goal.returns-clause-weighted
returns-clause-weighted c =
    let plant = c.args.plant.now in
    is_weighted_by plant c.args.step c.weight_of-weight.result.now c.args.distance.now.x c.args.distance.now.z c.in_ok-from_counts.from_counts c.in_ok-from_moves.from_moves c.weight_of-weight.ensures c.requires.distance (products_within plant.p c.args.step plant.horizon (omega arith)) c.in_ok-from_counts.ensures.ok c.in_ok-from_moves.ensures.ok

pub returns-clause-wide : goal.returns-clause-wide
returns-clause-wide c =
    let plant = c.args.plant.now in
    weights_fit plant c.args.step c.weight_of-weight.result.now c.args.distance.now.x c.args.distance.now.z c.in_ok-from_counts.from_counts c.in_ok-from_moves.from_moves c.weight_of-weight.ensures c.requires.distance (products_within plant.p c.args.step plant.horizon (omega arith)) c.in_ok-from_counts.ensures.wide c.in_ok-from_moves.ensures.wide

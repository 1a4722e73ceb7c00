use Rattle.mpc_condense.proofs.Sums.{no_sums}
use Rattle.mpc_condense.proofs.costs.no_cost.Goals as goal

pub returns : goal.returns
returns c = no_sums c.args.plant.now c.in_ok-hessian.hessian c.in_ok-linear.linear c.in_ok-constant.constant c.in_ok-hessian.ensures c.in_ok-linear.ensures c.in_ok-constant.ensures

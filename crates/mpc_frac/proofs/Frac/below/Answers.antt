use Rattle.mpc_frac.proofs.FracModel.{denom_is}
use Rattle.mpc_frac.proofs.Frac.below.Goals as goal

pub returns-clause-value : goal.returns-clause-value
returns-clause-value c = denom_is c.self.inside c.args.self.now c.self.invariant c.self.view_is

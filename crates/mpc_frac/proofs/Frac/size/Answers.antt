use Rattle.std.proofs.Common.{◌∙◌}
use Rattle.mpc_frac.proofs.FracModel.{size_is}
use Rattle.mpc_frac.proofs.Frac.size.Goals as goal

pub returns-clause-value : goal.returns-clause-value
returns-clause-value c = c.unsigned_abs.ensures.value ∙ size_is c.self.inside c.args.self.now c.self.invariant c.self.view_is

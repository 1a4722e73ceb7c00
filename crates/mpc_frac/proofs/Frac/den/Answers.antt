use Rattle.std.proofs.Common.{◌∙◌}
use Rattle.mpc_frac.proofs.FracModel.{read_back, den_is, fits_is}
use Rattle.mpc_frac.proofs.Frac.den.Goals as goal

pub returns-clause-value : goal.returns-clause-value
returns-clause-value c = read_back c.self.inside.den c.self.invariant.denom_fits ∙ den_is c.self.inside c.args.self.now c.self.invariant c.self.view_is

pub returns-clause-fits : goal.returns-clause-fits
returns-clause-fits c = fits_is c.self.inside c.args.self.now c.self.invariant c.self.view_is

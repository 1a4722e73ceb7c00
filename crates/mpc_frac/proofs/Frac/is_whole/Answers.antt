use Rattle.mpc_frac.proofs.FracModel.{whole_test, fits_is}
use Rattle.mpc_frac.proofs.Frac.is_whole.Goals as goal

pub returns-clause-value : goal.returns-clause-value
returns-clause-value c = whole_test c.self.inside c.args.self.now c.self.invariant c.self.view_is

pub returns-clause-fits : goal.returns-clause-fits
returns-clause-fits c = fits_is c.self.inside c.args.self.now c.self.invariant c.self.view_is

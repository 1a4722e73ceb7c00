use Rattle.std.proofs.Common.{refl}
use Rattle.mpc_tight.proofs.programs.tighten.Goals as goal

pub returns-clause-tightened : goal.returns-clause-tightened
returns-clause-tightened c = record { same_h = refl; same_f = refl; same_y = refl; same_g = refl; same_counts = refl; rows = c.in_ok-sides.ensures.done; fits = c.in_ok-sides.ensures.fits }

pub returns-clause-robust : goal.returns-clause-robust
returns-clause-robust c = c.tight_theorems.ensures.robust c.args.plant.now c.args.noise.now c.args.qp _ c.requires.condensed c.requires.noise (returns-clause-tightened c)

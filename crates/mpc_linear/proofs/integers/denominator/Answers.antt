use Rattle.mpc_space.proofs.Words.{read_size}
use Rattle.mpc_linear.proofs.WholeLemmas.{denom-from}
use Rattle.mpc_linear.proofs.integers.denominator.Goals as goal

pub returns-clause-value : goal.returns-clause-value
returns-clause-value c = read_size c.den.result c.args.fraction.now.denom c.den.ensures.value c.den.ensures.fits.1

pub returns-clause-positive : goal.returns-clause-positive
returns-clause-positive c = denom-from c.args.fraction.now _ (read_size c.den.result c.args.fraction.now.denom c.den.ensures.value c.den.ensures.fits.1)

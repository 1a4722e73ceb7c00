use Rattle.mpc_wholes.proofs.WholeDots.{numerator_read}
use Rattle.mpc_wholes.proofs.numerators.small_numerator.Goals as goal

pub returns-clause-value : goal.returns-clause-value
returns-clause-value c = numerator_read c.args.fraction.now c.num-numerator.result c.num-numerator.type_inv c.num-numerator.ensures.value

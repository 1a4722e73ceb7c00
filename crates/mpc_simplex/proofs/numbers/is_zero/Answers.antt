use Rattle.mpc_simplex.proofs.TurnedOver.{zero_test}
use Rattle.mpc_simplex.proofs.numbers.is_zero.Goals as goal

pub returns : goal.returns
returns c = zero_test c.is_zero.result c.args.number.now c.is_zero.ensures.value

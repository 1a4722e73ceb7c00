use Rattle.mpc_space.specs.Vector.{dot}
use Rattle.mpc_condense.proofs.Writing.{value_as}
use Rattle.mpc_condense.proofs.Writing.{zero_plus}
use Rattle.mpc_condense.proofs.blocks.dot_of.Goals as goal

pub returns-clause-value : goal.returns-clause-value
returns-clause-value c = value_as c.dot_from.result _ _ (zero_plus c.whole.result (dot c.args.left.now c.args.right.now) c.whole.ensures) c.dot_from.ensures.value

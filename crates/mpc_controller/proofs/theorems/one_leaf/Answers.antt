use Rattle.mpc_controller.proofs.OneLeafLemmas.{ends_at_one_leaf}
use Rattle.mpc_controller.proofs.theorems.one_leaf.Goals as goal

pub returns : goal.returns
returns c = ends_at_one_leaf

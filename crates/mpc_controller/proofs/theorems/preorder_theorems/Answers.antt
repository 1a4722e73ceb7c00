use Rattle.mpc_controller.proofs.PreorderLemmas.{spells_split, spells_leaf, spells_joined}
use Rattle.mpc_controller.proofs.theorems.preorder_theorems.Goals as goal

pub returns : goal.returns
returns c = record { split = spells_split; leaf = spells_leaf; joined = spells_joined }

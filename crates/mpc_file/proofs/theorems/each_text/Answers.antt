use Rattle.mpc_file.proofs.StatedNumbers.{stated_can_be}
use Rattle.mpc_file.proofs.theorems.each_text.Goals as goal

pub returns-clause-no_other : goal.returns-clause-no_other
returns-clause-no_other c = stated_can_be c.preorder_theorems.ensures.split c.preorder_theorems.ensures.leaf

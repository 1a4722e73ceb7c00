use Rattle.mpc_tree.proofs.OneTree.{one_tree, one_own_tree, own_of_certified, one_first_wide, fits_not_wide, tree_of_certified, fitting_of_certified}
use Rattle.mpc_tree.proofs.theorems.one_tree.Goals as goal

pub returns-clause-one_tree : goal.returns-clause-one_tree
returns-clause-one_tree c = one_tree c.law_theorems.ensures c.cell_theorems.ensures

pub returns-clause-one_own_tree : goal.returns-clause-one_own_tree
returns-clause-one_own_tree c = one_own_tree c.law_theorems.ensures c.cell_theorems.ensures

pub returns-clause-is_own : goal.returns-clause-is_own
returns-clause-is_own c = own_of_certified

pub returns-clause-one_first_wide : goal.returns-clause-one_first_wide
returns-clause-one_first_wide c = one_first_wide c.law_theorems.ensures c.cell_theorems.ensures

pub returns-clause-fits_not_wide : goal.returns-clause-fits_not_wide
returns-clause-fits_not_wide c = fits_not_wide c.law_theorems.ensures c.cell_theorems.ensures

pub returns-clause-is_tree : goal.returns-clause-is_tree
returns-clause-is_tree c = tree_of_certified

pub returns-clause-fits : goal.returns-clause-fits
returns-clause-fits c = fitting_of_certified

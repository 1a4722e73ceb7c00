use Rattle.mpc_tree.proofs.OneCell.{laws_of_table}
use Rattle.mpc_tree.proofs.TableSizes.{table_shape, few_laws}
use Rattle.mpc_tree.proofs.theorems.table_theorems.Goals as goal

pub returns-clause-are_laws : goal.returns-clause-are_laws
returns-clause-are_laws c = laws_of_table

pub returns-clause-have_shapes : goal.returns-clause-have_shapes
returns-clause-have_shapes c = table_shape

pub returns-clause-small : goal.returns-clause-small
returns-clause-small c = few_laws c.count_theorems.ensures

use Rattle.mpc_synthesis.proofs.TreeShapes.{tree_shapes}
use Rattle.mpc_synthesis.proofs.answers.tree_shapes.Goals as goal

pub returns : goal.returns
returns c = tree_shapes c.one_tree.ensures.is_tree c.multipliers_are_cert.ensures c.preorder_theorems.ensures.joined c.region_theorems.ensures.region_points c.law_theorems.ensures.law_row_size c.primitive_theorems.ensures.small c.table_sizes.ensures.of_plant

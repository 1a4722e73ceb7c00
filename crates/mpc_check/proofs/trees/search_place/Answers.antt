use Rattle.std.proofs.Common.{length}
use Rattle.mpc_check.proofs.ElementLemmas.{all_at}
use Rattle.mpc_check.specs.LeafSystems.{NamesLaw}
use Rattle.mpc_check.proofs.LeafLemmas.{node_there}
use Rattle.mpc_check.proofs.trees.search_place.Goals as goal

pub search_node-requires-clause-named : goal.search_node-requires-clause-named
search_node-requires-clause-named c = all_at (NamesLaw (length c.args.laws.now)) c.args.tree.now c.args.place c.at.result.now c.at.ensures c.requires.shapes.named

pub search_node-requires-clause-way : goal.search_node-requires-clause-way
search_node-requires-clause-way c = c.way_theorems.ensures.turns c.args.tree.now c.args.place c.args.way.now c.requires.way

pub returns : goal.returns
returns c = node_there c.one_path.ensures c.way_theorems.ensures.path c.args.qp.now c.args.laws.now c.args.tree.now c.args.place c.args.way.now c.requires.way c.at.result.now c.at.ensures c.search_node.result c.search_node.ensures

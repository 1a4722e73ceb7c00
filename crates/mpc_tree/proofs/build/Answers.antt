use Rattle.std.proofs.Common.{◌∙◌}
use Rattle.mpc_tree.proofs.Built.{laws_of_table, table_covers, built_tree, built_certs, built_certified, built_empty, built_wide, box_ready}
use Rattle.mpc_tree.proofs.TableSizes.{laws_numbered}
use Rattle.mpc_tree.proofs.build.Goals as goal

pub all_borders-requires-clause-are_laws : goal.all_borders-requires-clause-are_laws
all_borders-requires-clause-are_laws g c = laws_of_table c.args.qp.now c.args.laws.now c.requires.table

pub grown_by-requires-clause-few : goal.grown_by-requires-clause-few
grown_by-requires-clause-few g c = laws_numbered c.count_theorems.ensures c.args.qp.now c.args.laws.now c.requires.table

pub grown_by-requires-clause-cover : goal.grown_by-requires-clause-cover
grown_by-requires-clause-cover g c = table_covers c.cover_theorems.ensures.of_every_table c.args.qp.now c.args.laws.now c.requires.definite c.requires.table

pub grown_by-requires-clause-root : goal.grown_by-requires-clause-root
grown_by-requires-clause-root g c = record {
  ready = box_ready c.args.qp.now c.args.laws.now c.in_ok-cell.cell.rows.items (c.in_ok-cell.ensures.rows ∙ c.new.ensures.items);
  run = c.in_ok-cell.ensures.run;
}

pub returns-clause-tree : goal.returns-clause-tree
returns-clause-tree g c = built_tree c.args.qp.now c.args.laws.now c.in_ok-cell.cell.rows.items (c.in_ok-cell.ensures.rows ∙ c.new.ensures.items) c.grown_by.result c.grown_by.ensures.built

pub returns-clause-certs : goal.returns-clause-certs
returns-clause-certs g c = built_certs c.args.qp.now c.args.laws.now c.in_ok-cell.cell.rows.items (c.in_ok-cell.ensures.rows ∙ c.new.ensures.items) c.grown_by.result c.grown_by.ensures.built

pub returns-clause-certified : goal.returns-clause-certified
returns-clause-certified g c = built_certified c.args.qp.now c.args.laws.now c.in_ok-cell.cell.rows.items (c.in_ok-cell.ensures.rows ∙ c.new.ensures.items) c.grown_by.result c.grown_by.ensures.built

pub returns-clause-no_move : goal.returns-clause-no_move
returns-clause-no_move g c = built_empty c.args.qp.now c.args.laws.now c.in_ok-cell.cell.rows.items (c.in_ok-cell.ensures.rows ∙ c.new.ensures.items) c.grown_by.result c.grown_by.ensures.built (table_covers c.cover_theorems.ensures.of_every_table c.args.qp.now c.args.laws.now c.requires.definite c.requires.table)

pub returns-clause-wide : goal.returns-clause-wide
returns-clause-wide g c = built_wide c.args.qp.now c.args.laws.now c.in_ok-cell.cell.rows.items (c.in_ok-cell.ensures.rows ∙ c.new.ensures.items) c.grown_by.result c.grown_by.ensures.built c.grown_by.ensures.wide

use Rattle.std.proofs.Common.{◌-◌, sym, subst}
use Rattle.mpc_check.specs.Borders.{AreFormed}
use Rattle.mpc_check.specs.Findings.{IsSearched}
use Rattle.mpc_check.specs.LeafConditions.{NodeMet, NodeFinds}
use Rattle.mpc_controller.specs.Ways.{way_rows}
use Rattle.mpc_rows.specs.Laws.{HasLawShape}
use Rattle.mpc_check.proofs.BorderLemmas.{all_of_size, rows_there}
use Rattle.mpc_check.proofs.ElementLemmas.{all_at}
use Rattle.mpc_check.proofs.LeafLemmas.{law_leaf}
use Rattle.mpc_check.proofs.leaves.search_node.Goals as goal

pub search_law_leaf-requires-clause-sizes : goal.search_law_leaf-requires-clause-sizes
search_law_leaf-requires-clause-sizes c =
    let rows : AreFormed c.args.qp.now c.at-of_leaf.result.now c.in-Some.rows.now = rows_there c.args.qp.now c.args.laws.now c.args.borders.now c.in-Some.rows.now (c.in-Law.law - 1) c.at-of_leaf.result.now c.requires.borders c.at-of_leaf.ensures c.in-Some.ensures.at in
    all_of_size c.args.qp.now c.at-of_leaf.result.now c.in-Some.rows.now rows

pub form_rows-requires : goal.form_rows-requires
form_rows-requires c = all_at (HasLawShape c.args.qp.now) c.args.laws.now (c.in-Law.law - 1) c.at-of_leaf.result.now c.at-of_leaf.ensures c.requires.shapes

pub search_law_leaf-requires-in-None-clause-sizes : goal.search_law_leaf-requires-in-None-clause-sizes
search_law_leaf-requires-in-None-clause-sizes c =
    let rows : AreFormed c.args.qp.now c.at-of_leaf.result.now c.as_slice.result.now = subst (AreFormed c.args.qp.now c.at-of_leaf.result.now) (sym c.as_slice.ensures.value) c.in_ok-rows-in-None.ensures.rows in
    all_of_size c.args.qp.now c.at-of_leaf.result.now c.as_slice.result.now rows

pub returns-in-Some : goal.returns-in-Some
returns-in-Some c =
    let path = way_rows c.args.cell.now.tree.now c.args.cell.now.way.now in
    let rows : AreFormed c.args.qp.now c.at-of_leaf.result.now c.in-Some.rows.now = rows_there c.args.qp.now c.args.laws.now c.args.borders.now c.in-Some.rows.now (c.in-Law.law - 1) c.at-of_leaf.result.now c.requires.borders c.at-of_leaf.ensures c.in-Some.ensures.at in
    subst (λ node. IsSearched (NodeMet c.args.qp.now c.args.laws.now path node) (NodeFinds c.args.qp.now c.args.laws.now path c.args.number node) c.search_law_leaf.result) (sym c.in-Law.is)
    (law_leaf c.args.qp.now c.args.laws.now path c.args.number c.in-Law.law c.in-Law.certs c.at-of_leaf.result.now c.at-of_leaf.ensures c.search_law_leaf.result (c.search_law_leaf.ensures c.at-of_leaf.result.now rows))

pub returns-in_ok-rows-in-None : goal.returns-in_ok-rows-in-None
returns-in_ok-rows-in-None c =
    let path = way_rows c.args.cell.now.tree.now c.args.cell.now.way.now in
    let rows : AreFormed c.args.qp.now c.at-of_leaf.result.now c.as_slice.result.now = subst (AreFormed c.args.qp.now c.at-of_leaf.result.now) (sym c.as_slice.ensures.value) c.in_ok-rows-in-None.ensures.rows in
    subst (λ node. IsSearched (NodeMet c.args.qp.now c.args.laws.now path node) (NodeFinds c.args.qp.now c.args.laws.now path c.args.number node) c.search_law_leaf-in-None.result) (sym c.in-Law.is)
    (law_leaf c.args.qp.now c.args.laws.now path c.args.number c.in-Law.law c.in-Law.certs c.at-of_leaf.result.now c.at-of_leaf.ensures c.search_law_leaf-in-None.result (c.search_law_leaf-in-None.ensures c.at-of_leaf.result.now rows))

pub returns-in-NoMove : goal.returns-in-NoMove
returns-in-NoMove c =
    let path = way_rows c.args.cell.now.tree.now c.args.cell.now.way.now in
    subst (λ node. IsSearched (NodeMet c.args.qp.now c.args.laws.now path node) (NodeFinds c.args.qp.now c.args.laws.now path c.args.number node) c.search_empty_leaf.result) (sym c.in-NoMove.is) c.search_empty_leaf.ensures

use Rattle.std.proofs.Common.{subst}
use Rattle.mpc_check.specs.Borders.{IsBorder, IsFormed, IsFormedOfSize}
use Rattle.mpc_controller.specs.Ways.{way_rows}
use Rattle.mpc_check.proofs.LeafLemmas.{row_decided}
use Rattle.mpc_check.proofs.leaves.is_row_refuted.Goals as goal

pub is_broken_refuted-requires-clause-size : goal.is_broken_refuted-requires-clause-size
is_broken_refuted-requires-clause-size c = subst (IsFormedOfSize _) c.in-Row.is c.requires.size

pub returns : goal.returns
returns c law formed =
    let border : IsBorder c.args.qp.now law c.args.at_row c.in-Row.row = subst (IsFormed c.args.qp.now law c.args.at_row) c.in-Row.is formed in
    row_decided c.law_theorems.ensures.law_row_unique c.args.qp.now (way_rows c.args.cell.now.tree.now c.args.cell.now.way.now) law c.args.certs.now c.args.at_row c.in-Row.row border.is_row border.fits c.at.result.now c.at.ensures _ c.is_broken_refuted.result c.is_broken_refuted.ensures

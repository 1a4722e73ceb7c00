use Rattle.std.proofs.Common.{subst}
use Rattle.mpc_rows.specs.RunWidth.{RunFits}
use Rattle.mpc_tree.proofs.CellRuns.{behind_width, behind_rows, behind_holds}
use Rattle.mpc_tree.proofs.nodes.fits_behind.Goals as goal

pub fits_with-requires : goal.fits_with-requires
fits_with-requires c = behind_width c.args.qp.now c.args.cell.now.rows.items c.args.cell.now.run c.requires c.in-Some.run' c.in-Some.is c.args.border.now c.len.result c.len.ensures c.in-Some-whole.rows.now c.in-Some-whole.ensures

pub returns-in-Some-whole-clause-meets : goal.returns-in-Some-whole-clause-meets
returns-in-Some-whole-clause-meets c h = subst RunFits (behind_rows c.args.qp.now c.args.cell.now.rows.items c.args.cell.now.run c.requires c.in-Some.run' c.in-Some.is c.args.border.now c.len.result c.len.ensures c.in-Some-whole.rows.now c.in-Some-whole.ensures) (c.fits_with.ensures.all h)

pub returns-in-Some-whole-clause-holds : goal.returns-in-Some-whole-clause-holds
returns-in-Some-whole-clause-holds c h = behind_holds c.args.qp.now c.args.cell.now.rows.items c.args.cell.now.run c.requires c.in-Some.run' c.in-Some.is c.args.border.now c.len.result c.len.ensures c.in-Some-whole.rows.now c.in-Some-whole.ensures (c.fits_with.ensures.broken h)

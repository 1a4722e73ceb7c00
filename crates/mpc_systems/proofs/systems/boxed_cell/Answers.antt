use Rattle.std.proofs.Common.{◌∙◌, ◌++◌, ◌≡◌, ap, length}
use Rattle.mpc_rows.specs.SetRuns.{box_rows}
use Rattle.mpc_systems.proofs.SystemRows.{widened-none}
use Rattle.mpc_systems.proofs.systems.boxed_cell.Goals as goal

pub returns-clause-rows : goal.returns-clause-rows
returns-clause-rows c =
    let width : c.new-system.result.width ≡ length c.args.qp.now.counts = c.new-system.ensures.width ∙ c.len.ensures in
    c.in_ok-push_cell.ensures.rows ∙ ap (λ rows. c.push_box.new.system.rows ++ rows) (widened-none c.args.cell.now)
    ∙ ap (λ rows. rows ++ c.args.cell.now) (c.in_ok-push_box.ensures.rows ∙ ap (λ rows. rows ++ box_rows c.new-system.result.width c.args.qp.now.counts) c.new-system.ensures.rows ∙ ap (λ w. box_rows w c.args.qp.now.counts) width)

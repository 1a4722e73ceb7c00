use Rattle.std.proofs.Common.{◌≡◌, ◌+◌, ◌∙◌, ◌++◌, ap, map, length, arith}
use Rattle.mpc_space.specs.Matrix.{height}
use Rattle.mpc_rows.specs.SetRuns.{box_rows, joint_rows}
use Rattle.mpc_systems.specs.Systems.{joint_system}
use Rattle.mpc_systems.specs.Writing.{widened}
use Rattle.mpc_systems.proofs.SystemRows.{last_part}
use Rattle.mpc_systems.proofs.systems.joint_system.Goals as goal

pub returns : goal.returns
unfolding joint_system
returns c =
    let width : c.new-system.result.width ≡ length c.args.qp.now.counts + height c.args.qp.now.h = c.new-system.ensures.width ∙ (omega (arith, c.len.ensures, c.rows-unknowns.ensures.value)) in
    last_part (length c.args.qp.now.counts + height c.args.qp.now.h) c.push_cell.new.system.rows (box_rows (length c.args.qp.now.counts + height c.args.qp.now.h) c.args.qp.now.counts) (map (widened (height c.args.qp.now.h)) c.args.cell.now) (joint_rows c.args.qp.now) c.push_joint_rows.new.system
    (c.in_ok-push_cell.ensures.rows ∙ ap (λ more. c.push_box.new.system.rows ++ map (widened more) c.args.cell.now) c.rows-unknowns.ensures.value
    ∙ ap (λ rows. rows ++ map (widened (height c.args.qp.now.h)) c.args.cell.now) (c.in_ok-push_box.ensures.rows ∙ ap (λ rows. rows ++ box_rows c.new-system.result.width c.args.qp.now.counts) c.new-system.ensures.rows ∙ ap (λ w. box_rows w c.args.qp.now.counts) width))
    c.in_ok-push_joint_rows.ensures.rows (c.in_ok-push_joint_rows.ensures.width ∙ c.in_ok-push_cell.ensures.width ∙ c.in_ok-push_box.ensures.width ∙ width)

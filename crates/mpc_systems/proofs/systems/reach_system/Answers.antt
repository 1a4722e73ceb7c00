use Rattle.std.proofs.Common.{◌≡◌, ◌++◌, ◌∙◌, ◌+◌, length, ap, refl}
use Rattle.mpc_space.specs.Matrix.{height}
use Rattle.mpc_rows.specs.SetRuns.{box_rows, reach_system}
use Rattle.mpc_systems.proofs.SystemRows.{three_parts}
use Rattle.mpc_systems.proofs.systems.reach_system.Goals as goal

pub returns : goal.returns
unfolding reach_system
returns c =
    let width : c.new-system.result.width ≡ length c.args.qp.now.counts + height c.args.qp.now.h = c.new-system.ensures.width ∙ (λ t. c.len.ensures t + c.rows.ensures.value t) in
    three_parts _ _ _ _ _ _ _ _ c.push_members.new.system c.new-system.ensures.rows (c.in_ok-push_box.ensures.rows ∙ ap (λ w. c.new-system.result.rows ++ box_rows w c.args.qp.now.counts) width) c.in_ok-push_joint_rows.ensures.rows c.in_ok-push_members.ensures.rows refl
    (c.in_ok-push_members.ensures.width ∙ c.in_ok-push_joint_rows.ensures.width ∙ c.in_ok-push_box.ensures.width ∙ width)

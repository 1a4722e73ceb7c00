use Rattle.std.proofs.Common.{◌≡◌, ◌++◌, ◌∙◌, length, ap, refl}
use Rattle.mpc_rows.specs.SetRuns.{box_rows, region_system}
use Rattle.mpc_systems.proofs.SystemRows.{two_parts}
use Rattle.mpc_systems.proofs.systems.region_system.Goals as goal

pub returns : goal.returns
unfolding region_system
returns c =
    let width : c.new-system.result.width ≡ length c.args.qp.now.counts = c.new-system.ensures.width ∙ c.len.ensures in
    two_parts _ _ _ _ _ _ c.push_rows.new.system c.new-system.ensures.rows (c.in_ok-push_box.ensures.rows ∙ ap (λ w. c.new-system.result.rows ++ box_rows w c.args.qp.now.counts) width) c.in_ok-push_rows.ensures.rows refl
    (c.in_ok-push_rows.ensures.width ∙ c.in_ok-push_box.ensures.width ∙ width)

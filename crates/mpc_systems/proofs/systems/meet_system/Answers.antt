use Rattle.std.proofs.Common.{◌∙◌, length}
use Rattle.mpc_rows.specs.SetRuns.{box_rows}
use Rattle.mpc_systems.specs.Systems.{meet_system}
use Rattle.mpc_systems.proofs.SystemRows.{last_part}
use Rattle.mpc_systems.proofs.systems.meet_system.Goals as goal

pub returns : goal.returns
unfolding meet_system
returns c = last_part (length c.args.qp.now.counts) c.in_ok-system.system.rows (box_rows (length c.args.qp.now.counts) c.args.qp.now.counts) c.args.cell.now _ c.push_rows.new.system c.in_ok-system.ensures.rows c.in_ok-push_rows.ensures.rows (c.in_ok-push_rows.ensures.width ∙ c.in_ok-system.ensures.width)

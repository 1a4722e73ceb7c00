use Rattle.mpc_systems.proofs.CellPoints.{broken_points, holds_unless, box_points, region_rows, meet_points, hold_points, joint_points, joint_has_point, hold_width, joint_width}
use Rattle.mpc_systems.proofs.theorems.cell_theorems.Goals as goal

pub returns : goal.returns
returns c =
    let laws = c.region_theorems.ensures in
    record {
      broken_points = broken_points;
      holds_unless = holds_unless;
      box_points = box_points laws;
      region_rows = region_rows laws;
      meet_points = meet_points laws;
      hold_points = hold_points laws;
      joint_points = joint_points laws;
      joint_has_point = joint_has_point laws;
      hold_width = hold_width;
      joint_width = joint_width;
    }

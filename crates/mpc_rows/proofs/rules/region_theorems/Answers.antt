use Rattle.mpc_rows.proofs.BoxLemmas.{box_meets}
use Rattle.mpc_rows.proofs.JointLemmas.{size_in_box, joint_rows_meet, reachable}
use Rattle.mpc_rows.proofs.RegionLemmas.{region_points, has_region}
use Rattle.mpc_rows.proofs.rules.region_theorems.Goals as goal

pub returns : goal.returns
returns c = record { size_in_box = size_in_box; box_meets = box_meets; joint_rows_meet = joint_rows_meet; reachable = reachable; region_points = region_points; has_region = has_region }

use Rattle.std.proofs.Common.{◌≡◌, ◌-◌, map}
use Rattle.std.specs.List.{range_with_len}
use Rattle.mpc_rows.specs.SetRuns.{joint_row}
use Rattle.mpc_systems.proofs.pushing.joint_rows.Given as goal

abbrev pub invariant-loop-at_row : goal.invariant-loop-at_row
invariant-loop-at_row l = l.rows ≡ map (joint_row l.qp) (range_with_len 1 (l.at_row - 1))

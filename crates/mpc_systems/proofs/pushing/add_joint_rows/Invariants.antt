use Rattle.std.proofs.Common.{◌≡◌, ◌++◌, ◌-◌, map}
use Rattle.std.specs.List.{range_with_len}
use Rattle.mpc_rows.specs.SetRuns.{joint_row}
use Rattle.mpc_systems.proofs.pushing.add_joint_rows.Given as goal

abbrev pub invariant-loop-at_row : goal.invariant-loop-at_row
invariant-loop-at_row l = record {
  width : l.system.width ≡ l.fn.system.width;
  rows : l.system.rows ≡ l.fn.system.rows ++ map (joint_row l.qp) (range_with_len 1 (l.at_row - 1));
}

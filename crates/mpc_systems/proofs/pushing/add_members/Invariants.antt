use Rattle.std.proofs.Common.{◌≡◌, ◌++◌, ◌-◌, map, take}
use Rattle.mpc_rows.specs.SetRuns.{joint_row, turned}
use Rattle.mpc_systems.proofs.pushing.add_members.Given as goal

abbrev pub invariant-loop-k : goal.invariant-loop-k
invariant-loop-k l = record {
  width : l.system.width ≡ l.fn.system.width;
  rows : l.system.rows ≡ l.fn.system.rows ++ map (λ i. turned (joint_row l.qp i)) (take (l.k - 1) l.set);
}

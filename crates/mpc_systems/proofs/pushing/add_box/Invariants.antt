use Rattle.std.proofs.Common.{◌≡◌, ◌++◌, take}
use Rattle.mpc_rows.specs.SetRuns.{box_from}
use Rattle.mpc_systems.proofs.pushing.add_box.Given as goal

abbrev pub invariant-loop-coordinate : goal.invariant-loop-coordinate
invariant-loop-coordinate l = record {
  width : l.system.width ≡ l.fn.system.width;
  rows : l.system.rows ≡ l.fn.system.rows ++ box_from l.fn.system.width 0 (take l.coordinate l.counts);
}

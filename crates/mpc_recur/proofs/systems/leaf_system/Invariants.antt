use Rattle.std.proofs.Common.{◌≡◌, ◌++◌, length, map, take}
use Rattle.mpc_rows.specs.SetRuns.{box_rows}
use Rattle.mpc_controller.specs.Ways.{turn_row}
use Rattle.mpc_recur.proofs.systems.leaf_system.Given as goal

abbrev pub invariant-loop-turn : goal.invariant-loop-turn
invariant-loop-turn l = record {
  width : l.system.width ≡ length l.limits;
  rows : l.system.rows ≡ box_rows (length l.limits) l.limits ++ map (turn_row l.tree) (take l.turn-index l.way);
}

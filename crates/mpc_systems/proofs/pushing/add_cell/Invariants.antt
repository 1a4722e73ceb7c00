use Rattle.std.proofs.Common.{◌≡◌, ◌++◌, map, take}
use Rattle.mpc_systems.specs.Writing.{widened}
use Rattle.mpc_systems.proofs.pushing.add_cell.Given as goal

abbrev pub invariant-loop-row : goal.invariant-loop-row
invariant-loop-row l = record {
  width : l.system.width ≡ l.fn.system.width;
  rows : l.system.rows ≡ l.fn.system.rows ++ map (widened l.more) (take l.row-index l.cell);
}

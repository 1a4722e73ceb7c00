use Rattle.std.proofs.Common.{◌≡◌, ◌++◌, map, take}
use Rattle.mpc_rows.specs.LawRows.{whole_row}
use Rattle.mpc_systems.proofs.pushing.add_rows.Given as goal

abbrev pub invariant-loop-row : goal.invariant-loop-row
invariant-loop-row l = record {
  width : l.system.width ≡ l.fn.system.width;
  rows : l.system.rows ≡ l.fn.system.rows ++ map whole_row (take l.row-index l.rows);
}

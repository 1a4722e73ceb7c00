use Rattle.std.proofs.Common.{◌≡◌, map, take}
use Rattle.mpc_rows.specs.LawRows.{whole_row}
use Rattle.mpc_scaled.proofs.systems.WholeSystem.of_rows.Given as goal

abbrev pub invariant-loop-row : goal.invariant-loop-row
invariant-loop-row l = record {
  width : l.whole.width ≡ l.width;
  rows : l.whole.rows ≡ map whole_row (take l.row-index l.rows);
}

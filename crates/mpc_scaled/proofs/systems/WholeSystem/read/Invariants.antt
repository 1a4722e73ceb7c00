use Rattle.std.proofs.Common.{◌≡◌, take}
use Rattle.mpc_scaled.proofs.systems.WholeSystem.read.Given as goal

abbrev pub invariant-loop-at_row : goal.invariant-loop-at_row
invariant-loop-at_row l = record {
  width : l.whole.width ≡ l.system.width;
  rows : l.whole.rows ≡ take l.at_row l.system.rows;
}

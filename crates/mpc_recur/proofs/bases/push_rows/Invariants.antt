use Rattle.std.proofs.Common.{◌≡◌, ◌++◌, take}
use Rattle.mpc_recur.proofs.bases.push_rows.Given as goal

abbrev pub invariant-loop-i : goal.invariant-loop-i
invariant-loop-i l = record {
  width : l.system.width ≡ l.fn.system.width;
  rows : l.system.rows ≡ l.fn.system.rows ++ take l.i l.other.rows;
}

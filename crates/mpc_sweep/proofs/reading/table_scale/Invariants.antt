use Rattle.std.proofs.Common.{◌<◌, ◌≤◌, ◌^◌}
use Rattle.mpc_sweep.proofs.reading.table_scale.Given as goal

abbrev pub invariant-loop-at_row : goal.invariant-loop-at_row
invariant-loop-at_row l = record {
  some : 0 < l.scale;
  small : l.scale ≤ 2 ^ 62;
}

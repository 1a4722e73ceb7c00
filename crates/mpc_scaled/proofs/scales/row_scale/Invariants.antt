use Rattle.std.proofs.Common.{◌<◌, ◌≤◌, ◌^◌}
use Rattle.mpc_scaled.proofs.scales.row_scale.Given as goal

abbrev pub invariant-loop-number : goal.invariant-loop-number
invariant-loop-number l = record {
  some : 0 < l.scale;
  small : l.scale ≤ 2 ^ 40;
}

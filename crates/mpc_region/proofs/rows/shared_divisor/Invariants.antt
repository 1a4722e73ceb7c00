use Rattle.std.proofs.Common.{◌≤◌, ◌^◌}
use Rattle.mpc_region.specs.SweptRows.{number_from, IsSharedBy}
use Rattle.mpc_region.proofs.rows.shared_divisor.Given as goal

abbrev pub invariant-loop-index : goal.invariant-loop-index
invariant-loop-index l = record {
  shared : IsSharedBy (number_from l.table l.row l.first) l.index l.shared;
  small : l.shared ≤ 2 ^ 62;
}

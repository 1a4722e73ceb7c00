use Rattle.std.proofs.Common.{ℕ, ◌<◌}
use Rattle.mpc_region.specs.Refuters.{IsSmallRow}
use Rattle.mpc_region.proofs.refuters.are_small_rows.Given as goal

abbrev pub invariant-loop-row : goal.invariant-loop-row
invariant-loop-row l = (row : ℕ) → row < l.row → IsSmallRow l.qp l.table row

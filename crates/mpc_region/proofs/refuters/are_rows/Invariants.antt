use Rattle.std.proofs.Common.{ℕ, ◌<◌, get_or}
use Rattle.mpc_region.specs.Refuters.{region_rows}
use Rattle.mpc_region.proofs.refuters.are_rows.Given as goal

abbrev pub invariant-loop-row : goal.invariant-loop-row
invariant-loop-row l = (k : ℕ) → k < l.row-index → get_or l.rows k 0 < region_rows l.qp

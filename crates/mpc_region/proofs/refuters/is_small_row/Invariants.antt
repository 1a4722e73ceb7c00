use Rattle.std.proofs.Common.{ℕ, ◌<◌, ◌≤◌, length, unsigned_abs}
use Rattle.mpc_minors.specs.Lines.{most_coefficient}
use Rattle.mpc_region.specs.Refuters.{law_number}
use Rattle.mpc_region.proofs.refuters.is_small_row.Given as goal

abbrev pub invariant-loop-column : goal.invariant-loop-column
invariant-loop-column l = (j : ℕ) → j < l.column → unsigned_abs (law_number l.qp l.table l.row j) ≤ most_coefficient (length l.qp.counts)

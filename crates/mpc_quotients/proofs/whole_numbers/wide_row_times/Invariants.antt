use Rattle.std.proofs.Common.{◌≡◌, ◌*ℤ◌, length}
use Rattle.mpc_runs.specs.WholeNumbers.{whole_total}
use Rattle.mpc_scaled.specs.Scaled.{whole_cell, whole_at}
use Rattle.mpc_quotients.proofs.whole_numbers.wide_row_times.Given as goal

abbrev pub invariant-loop-place : goal.invariant-loop-place
invariant-loop-place l = l.total ≡ whole_total l.place (λ j. whole_cell (length l.vector) l.matrix l.row j *ℤ whole_at l.vector j)

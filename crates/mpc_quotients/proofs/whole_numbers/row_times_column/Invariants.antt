use Rattle.std.proofs.Common.{◌≡◌, ◌*ℤ◌}
use Rattle.std.specs.Int.{w64, int_wrap}
use Rattle.mpc_runs.specs.WholeNumbers.{whole_total}
use Rattle.mpc_scaled.specs.Scaled.{whole_cell}
use Rattle.mpc_quotients.proofs.whole_numbers.row_times_column.Given as goal

abbrev pub invariant-loop-place : goal.invariant-loop-place
invariant-loop-place l = l.total ≡ int_wrap w64 (whole_total l.place (λ j. whole_cell l.width l.matrix l.row j *ℤ whole_cell l.width l.numbers j l.column))

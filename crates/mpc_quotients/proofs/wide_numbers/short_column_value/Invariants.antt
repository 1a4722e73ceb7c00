use Rattle.std.proofs.Common.{◌≡◌, ◌*ℤ◌}
use Rattle.mpc_runs.specs.WholeNumbers.{whole_total}
use Rattle.mpc_scaled.specs.Scaled.{whole_cell}
use Rattle.mpc_quotients.proofs.wide_numbers.short_column_value.Given as goal

abbrev pub invariant-loop-place : goal.invariant-loop-place
invariant-loop-place l = l.total ≡ whole_total l.place (λ j. whole_cell l.width l.matrix l.row j *ℤ whole_cell l.width l.numbers j l.column)

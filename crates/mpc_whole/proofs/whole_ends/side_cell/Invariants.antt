use Rattle.std.proofs.Common.{◌≡◌, ◌*ℤ◌}
use Rattle.mpc_runs.specs.WholeNumbers.{whole_total}
use Rattle.mpc_scaled.specs.Scaled.{whole_cell}
use Rattle.mpc_whole.proofs.whole_ends.side_cell.Given as goal

abbrev pub invariant-loop-unknown : goal.invariant-loop-unknown
invariant-loop-unknown l = l.total ≡ whole_total l.unknown (λ j. whole_cell l.width l.entries l.side j *ℤ whole_cell l.width l.numbers j l.column)

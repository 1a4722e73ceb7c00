use Rattle.std.proofs.Common.{◌≡◌, ℕ, ◌<◌, ◌*ℤ◌}
use Rattle.mpc_runs.specs.WholeNumbers.{whole_total}
use Rattle.mpc_scaled.specs.Scaled.{whole_at, whole_cell}
use Rattle.mpc_whole.proofs.whole_turn.four_side_row.Given as goal

abbrev pub invariant-loop-column : goal.invariant-loop-column
invariant-loop-column l = (c : ℕ) → c < l.column → whole_at l.row c ≡ whole_total 4 (λ j. whole_cell 4 l.entries l.side j *ℤ whole_cell 4 l.numbers j c)

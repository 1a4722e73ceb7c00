use Rattle.std.proofs.Common.{◌≡◌, ℕ, ◌<◌}
use Rattle.mpc_whole.specs.Whole.{side_cell}
use Rattle.mpc_scaled.specs.Scaled.{whole_at}
use Rattle.mpc_whole.proofs.whole_ends.side_row.Given as goal

abbrev pub invariant-loop-column : goal.invariant-loop-column
invariant-loop-column l = (c : ℕ) → c < l.column → whole_at l.row c ≡ side_cell l.system l.entries l.numbers l.side c

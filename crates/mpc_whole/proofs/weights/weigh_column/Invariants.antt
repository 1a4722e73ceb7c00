use Rattle.std.proofs.Common.{ℕ, ◌*◌, ◌<◌, ◌≤◌, length, get_or, unsigned_abs}
use Rattle.mpc_scaled.specs.Scaled.{whole_cell}
use Rattle.mpc_whole.proofs.weights.weigh_column.Given as goal

abbrev pub invariant-loop-unknown : goal.invariant-loop-unknown
invariant-loop-unknown l = record {
  before : (j : ℕ) → get_or l.initial.weights j 0 ≤ get_or l.weights j 0;
  here : (j : ℕ) → j < l.unknown → unsigned_abs (whole_cell (length l.initial.weights) l.numbers j l.column) * l.weight ≤ get_or l.weights j 0;
}

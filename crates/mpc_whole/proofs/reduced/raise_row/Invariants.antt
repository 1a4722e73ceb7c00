use Rattle.std.proofs.Common.{◌≡◌, ℕ, ◌+◌, ◌*◌, ◌<◌, ◌≤◌, ◌⊎◌, length}
use Rattle.mpc_whole.specs.Whole.{IsChanged}
use Rattle.mpc_scaled.specs.Scaled.{whole_at, whole_cell}
use Rattle.mpc_whole.proofs.reduced.raise_row.Given as goal

abbrev pub invariant-loop-column : goal.invariant-loop-column
invariant-loop-column l = record {
  done : (c : ℕ) → c < l.column → IsChanged (length l.row) 1 l.den l.initial.numbers l.row l.unknown l.pivot_column c (whole_cell (length l.row) l.numbers l.unknown c);
  kept : (k : ℕ) → (k < l.unknown * length l.row) ⊎ (l.unknown * length l.row + l.column ≤ k) → whole_at l.numbers k ≡ whole_at l.initial.numbers k;
}

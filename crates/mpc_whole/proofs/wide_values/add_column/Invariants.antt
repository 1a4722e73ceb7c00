use Rattle.std.proofs.Common.{◌≡◌, ℕ, ◌<◌, ◌≤◌, ◌+ℤ◌, ◌*ℤ◌, length}
use Rattle.mpc_scaled.specs.Scaled.{whole_at, whole_cell}
use Rattle.mpc_whole.proofs.wide_values.add_column.Given as goal

abbrev pub invariant-loop-unknown : goal.invariant-loop-unknown
invariant-loop-unknown l = record {
  done : (k : ℕ) → k < l.unknown → whole_at l.list k ≡ whole_at l.initial.list k +ℤ (whole_cell (length l.initial.list) l.numbers k l.column *ℤ l.factor);
  kept : (k : ℕ) → l.unknown ≤ k → whole_at l.list k ≡ whole_at l.initial.list k;
}

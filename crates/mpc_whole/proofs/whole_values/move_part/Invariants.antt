use Rattle.std.proofs.Common.{◌≡◌, ℕ, ◌<◌, ◌≤◌, ◌^◌, ◌+ℤ◌, ◌*ℤ◌, neg_ℤ, pos, length}
use Rattle.mpc_scaled.specs.Scaled.{whole_at, whole_cell, IsSmall}
use Rattle.mpc_whole.specs.Moved.{excess}
use Rattle.mpc_whole.proofs.whole_values.move_part.Given as goal

abbrev pub invariant-loop-unknown : goal.invariant-loop-unknown
invariant-loop-unknown l = record {
  done : (k : ℕ) → k < l.unknown → whole_at l.values k *ℤ pos l.pivot.by.den ≡ (whole_at l.initial.values k *ℤ pos l.pivot.size) +ℤ neg_ℤ (whole_cell (length l.initial.values) l.numbers k l.pivot.column *ℤ excess (length l.initial.values) l.entries l.pivot.side l.limit l.pivot.by.den l.initial.values);
  kept : (k : ℕ) → l.unknown ≤ k → whole_at l.values k ≡ whole_at l.initial.values k;
  small : IsSmall (2 ^ 62) l.values;
}

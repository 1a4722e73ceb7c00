use Rattle.std.proofs.Common.{◌≡◌, ℕ, ◌+◌, ◌<◌, ◌≤◌, ◌⊎◌, unsigned_abs}
use Rattle.mpc_whole.specs.Changes.{IsChangedBy}
use Rattle.mpc_scaled.specs.Scaled.{whole_at, IsSmall}
use Rattle.mpc_whole.proofs.whole_pivot.change_columns.Given as goal

abbrev pub invariant-loop-column : goal.invariant-loop-column
invariant-loop-column l = record {
  behind : l.first ≤ l.column;
  done : (c : ℕ) → l.first ≤ c → c < l.column → IsChangedBy l.change (whole_at l.initial.numbers (l.from + c)) (whole_at l.row c) (whole_at l.numbers (l.from + c));
  kept : (k : ℕ) → (k < l.from + l.first) ⊎ (l.from + l.column ≤ k) → whole_at l.numbers k ≡ whole_at l.initial.numbers k;
  small : IsSmall l.change.most l.numbers;
  own : (k : ℕ) → k < l.from + l.column → unsigned_abs (whole_at l.numbers k) ≤ l.own;
}

use Rattle.std.proofs.Common.{◌≡◌, ℕ, ◌*◌, ◌<◌, ◌≤◌, length, unsigned_abs}
use Rattle.mpc_whole.specs.Whole.{IsChanged}
use Rattle.mpc_scaled.specs.Scaled.{whole_at, whole_cell, IsSmall}
use Rattle.mpc_whole.proofs.whole_pivot.exchange.Given as goal

abbrev pub invariant-loop-unknown : goal.invariant-loop-unknown
invariant-loop-unknown l = record {
  done : (j c : ℕ) → j < l.unknown → c < length l.row → IsChanged (length l.row) l.terms.by.den l.terms.by.den l.initial.numbers l.row j l.pivot_column c (whole_cell (length l.row) l.numbers j c);
  kept : (k : ℕ) → l.unknown * length l.row ≤ k → whole_at l.numbers k ≡ whole_at l.initial.numbers k;
  small : IsSmall l.terms.most l.numbers;
  own : (k : ℕ) → k < l.unknown * length l.row → unsigned_abs (whole_at l.numbers k) ≤ l.own;
}

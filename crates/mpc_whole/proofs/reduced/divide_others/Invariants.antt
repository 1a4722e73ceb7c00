use Rattle.std.proofs.Common.{◌≡◌, ℕ, ◌<◌, ◌≤◌, ◌*ℤ◌, pos, unsigned_abs}
use Rattle.mpc_scaled.specs.Scaled.{whole_at}
use Rattle.mpc_whole.proofs.reduced.divide_others.Given as goal

abbrev pub invariant-loop-index : goal.invariant-loop-index
invariant-loop-index l = record {
  done : (k : ℕ) → k < l.index → l.from ≤ k → whole_at l.list k *ℤ pos l.by.den ≡ whole_at l.initial.list k;
  above : (k : ℕ) → l.index ≤ k → whole_at l.list k ≡ whole_at l.initial.list k;
  below : (k : ℕ) → k < l.from → whole_at l.list k ≡ whole_at l.initial.list k;
  own : (k : ℕ) → k < l.index → l.from ≤ k → unsigned_abs (whole_at l.list k) ≤ l.own;
  before : l.before ≤ l.own;
  begun : l.from ≤ l.index;
}

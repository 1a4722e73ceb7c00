use Rattle.std.proofs.Common.{◌≡◌, ℕ, ◌<◌, ◌≤◌, ◌*ℤ◌, pos, unsigned_abs}
use Rattle.mpc_scaled.specs.Scaled.{whole_at}
use Rattle.mpc_whole.proofs.reduced.divide_first.Given as goal

abbrev pub invariant-loop-index : goal.invariant-loop-index
invariant-loop-index l = record {
  done : (k : ℕ) → k < l.index → whole_at l.list k *ℤ pos l.by.den ≡ whole_at l.initial.list k;
  kept : (k : ℕ) → l.index ≤ k → whole_at l.list k ≡ whole_at l.initial.list k;
  own : (k : ℕ) → k < l.index → unsigned_abs (whole_at l.list k) ≤ l.own;
}

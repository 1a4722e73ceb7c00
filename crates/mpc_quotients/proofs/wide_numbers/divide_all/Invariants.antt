use Rattle.std.proofs.Common.{◌≡◌, ℕ, ◌<◌, ◌≤◌, ◌*ℤ◌, pos, unsigned_abs}
use Rattle.mpc_scaled.specs.Scaled.{whole_at}
use Rattle.mpc_quotients.proofs.wide_numbers.divide_all.Given as goal

abbrev pub invariant-loop-place : goal.invariant-loop-place
invariant-loop-place l = record {
  done : (k : ℕ) → k < l.place → whole_at l.list k *ℤ pos l.by.den ≡ whole_at l.initial.list k;
  kept : (k : ℕ) → l.place ≤ k → whole_at l.list k ≡ whole_at l.initial.list k;
  own : (k : ℕ) → k < l.place → unsigned_abs (whole_at l.list k) ≤ l.own;
}

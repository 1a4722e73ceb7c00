use Rattle.std.proofs.Common.{ℕ, ◌<◌, ◌≤◌, ◌^◌, unsigned_abs}
use Rattle.mpc_whole.specs.Moved.{IsValueAt}
use Rattle.mpc_scaled.specs.Scaled.{whole_at}
use Rattle.mpc_whole.proofs.whole_values.stand.Given as goal

abbrev pub invariant-loop-unknown : goal.invariant-loop-unknown
invariant-loop-unknown l = record {
  done : (k : ℕ) → k < l.unknown → IsValueAt l.system l.frame.count l.frame.scales.now l.frame.b.now l.nonbasic l.numbers k (whole_at l.firsts k) (whole_at l.seconds k);
  first_small : (k : ℕ) → k < l.unknown → unsigned_abs (whole_at l.firsts k) ≤ 2 ^ 62;
  second_small : (k : ℕ) → k < l.unknown → unsigned_abs (whole_at l.seconds k) ≤ 2 ^ 62;
}

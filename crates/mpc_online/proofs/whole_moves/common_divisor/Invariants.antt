use Rattle.std.proofs.Common.{ℕ, ◌<◌, get_or, pos, unsigned_abs}
use Rattle.std.specs.Int.{◌∣◌}
use Rattle.mpc_online.proofs.whole_moves.common_divisor.Given as goal

abbrev pub invariant-loop-index : goal.invariant-loop-index
invariant-loop-index l = record {
  of_den : l.shared ∣ l.numbers.den;
  of_numerators : (j : ℕ) → j < l.index → l.shared ∣ unsigned_abs (get_or l.numbers.numerators j (pos 0));
  positive : 0 < l.shared;
}

use Rattle.std.proofs.Common.{◌≡◌, ℕ, ◌<◌, ◌≤◌, get_or, pos}
use Rattle.mpc_wholes.proofs.spans.span_of.Given as goal

abbrev pub invariant-loop-k : goal.invariant-loop-k
invariant-loop-k l = record {
  ordered : l.first ≤ l.end;
  within : l.end ≤ l.k;
  before : (j : ℕ) → j < l.first → get_or l.numbers.numerators j (pos 0) ≡ pos 0;
  behind : (j : ℕ) → l.end ≤ j → j < l.k → get_or l.numbers.numerators j (pos 0) ≡ pos 0;
}

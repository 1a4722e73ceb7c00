use Rattle.std.proofs.Common.{◌≡◌, ℕ, ◌^◌, ◌<◌, ◌≤◌, length, get_or, pos, unsigned_abs, All}
use Rattle.mpc_exact.specs.Rational.{frac}
use Rattle.mpc_space.specs.Matrix.{entry}
use Rattle.mpc_wholes.proofs.numerators.column_over.Given as goal

abbrev pub invariant-loop-k : goal.invariant-loop-k
invariant-loop-k l = record {
  size : length l.numerators ≡ 6;
  entries : (j : ℕ) → j < l.k → entry l.matrix j l.at_column ≡ frac (get_or l.numerators j (pos 0)) l.den;
  numbers : All (λ z. unsigned_abs z ≤ l.most) l.numerators;
  den_small : l.den ≤ l.most;
  most_small : l.most ≤ 2 ^ 124;
}

use Rattle.std.proofs.Common.{◌≡◌, ℕ, ◌+◌, length, take, neg_ℤ}
use Rattle.mpc_exact.specs.Rational.{frac}
use Rattle.mpc_scaled.specs.Scaled.{whole_at, IsSmall}
use Rattle.mpc_scaled.specs.WholeSystems.{AreBehind}
use Rattle.mpc_scaled.proofs.systems.add_negatives.Given as goal

abbrev pub invariant-loop-place : goal.invariant-loop-place
invariant-loop-place l = record {
  kept : take (length l.fn.coefficients.items) l.coefficients.items ≡ l.fn.coefficients.items;
  behind : (scale most : ℕ) → IsSmall most l.fn.coefficients.items → AreBehind l.fn.coefficients.items l.coefficients.items l.place scale (λ j. frac (neg_ℤ (whole_at l.fn.coefficients.items (l.from + j))) scale) most;
}

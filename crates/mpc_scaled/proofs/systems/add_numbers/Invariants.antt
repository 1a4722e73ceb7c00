use Rattle.std.proofs.Common.{◌≡◌, ◌≤◌, length, take, get_or, pos}
use Rattle.mpc_exact.specs.Rational.{int}
use Rattle.mpc_scaled.specs.WholeSystems.{AreBehind, negated_where}
use Rattle.mpc_scaled.proofs.systems.add_numbers.Given as goal

abbrev pub invariant-loop-number : goal.invariant-loop-number
invariant-loop-number l = record {
  kept : take (length l.fn.coefficients.items) l.coefficients.items ≡ l.fn.coefficients.items;
  behind : AreBehind l.fn.coefficients.items l.coefficients.items l.number-index 1 (λ j. int (negated_where l.negated (get_or l.row j (pos 0)))) l.most;
  bound : l.fn.most ≤ l.most;
}

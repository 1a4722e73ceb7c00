use Rattle.std.proofs.Common.{◌≡◌, ℕ, ◌<◌, ◌^◌, get_or, take, map, unsigned_abs}
use Rattle.mpc_exact.specs.Rational.{ℚ}
use Rattle.mpc_linear.specs.Whole.{scaled}
use Rattle.mpc_linear.proofs.integers.numerators_over.Given as goal

abbrev pub invariant-loop-fraction : goal.invariant-loop-fraction
invariant-loop-fraction l = record {
  value : l.numerators ≡ map (scaled l.all) (take l.fraction-index l.fractions);
  fit : (j : ℕ) (d : ℚ) → j < l.fraction-index → unsigned_abs (scaled l.all (get_or l.fractions j d)) < 2 ^ 127;
}

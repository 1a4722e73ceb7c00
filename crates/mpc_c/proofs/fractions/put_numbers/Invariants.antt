use Rattle.std.proofs.Common.{◌≡◌, ℕ, ◌<◌, get_or}
use Rattle.mpc_exact.specs.Rational.{ℚ}
use Rattle.mpc_c.specs.Fractions.{ratio_of, lowest, no_move}
use Rattle.mpc_c.proofs.fractions.put_numbers.Given as goal

abbrev pub invariant-loop-i : goal.invariant-loop-i
invariant-loop-i l = (k : ℕ) (e : ℚ) → k < l.i → ratio_of (get_or l.moves k no_move) ≡ lowest (get_or l.numbers k e)

use Rattle.std.proofs.Common.{◌≡◌, ℕ, ◌<◌, [], length, get_or}
use Rattle.mpc_wholes.specs.declared.numbers.Wholes.{Wholes}
use Rattle.mpc_wholes.specs.Wholes.{AreOver}
use Rattle.mpc_wholes.proofs.numerators.rows_over.Given as goal

abbrev pub invariant-loop-i : goal.invariant-loop-i
invariant-loop-i l = record {
  size : length l.rows.items ≡ l.i;
  at : (j : ℕ) (d : Wholes) → j < l.i → AreOver (get_or l.matrix.rows j []) l.den l.limit (get_or l.rows.items j d);
}

use Rattle.std.proofs.Common.{◌≡◌, ℕ, ◌^◌, ◌<◌, ◌≤◌, length, get_or, pos, unsigned_abs, All}
use Rattle.mpc_exact.specs.Rational.{frac}
use Rattle.mpc_space.specs.Vector.{cell}
use Rattle.mpc_rows.specs.ActiveSets.{rows_of}
use Rattle.mpc_check.proofs.whole_laws.member_column.Given as goal

abbrev pub invariant-loop-place : goal.invariant-loop-place
invariant-loop-place l = record {
  size : length l.numerators ≡ 6;
  entries : (j : ℕ) → j < l.place → cell (rows_of l.qp.g.rows l.law.set) j l.line ≡ frac (get_or l.numerators j (pos 0)) l.program.den;
  small : All (λ z. unsigned_abs z ≤ 2 ^ 61) l.numerators;
}

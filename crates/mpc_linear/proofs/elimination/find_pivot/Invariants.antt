use Rattle.std.proofs.Common.{◌≡◌, ℕ, ◌<◌, ◌≤◌, pos}
use Rattle.mpc_exact.specs.Rational.{int}
use Rattle.mpc_linear.specs.Stored.{stored}
use Rattle.mpc_linear.proofs.elimination.find_pivot.Given as goal

abbrev pub invariant-loop-row : goal.invariant-loop-row
invariant-loop-row l = (k : ℕ) → l.column ≤ k → k < l.row → stored l.width l.table k l.column ≡ int (pos 0)

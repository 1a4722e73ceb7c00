use Rattle.std.proofs.Common.{◌≡◌, ℕ, ◌<◌}
use Rattle.mpc_runs.specs.Exchange.{own_cell, row_at, QuotientFits}
use Rattle.mpc_simplex.proofs.tableau.own_row.Given as goal

abbrev pub invariant-loop-column : goal.invariant-loop-column
invariant-loop-column l = record {
  cells : (z : ℕ) → z < l.column → row_at l.row z ≡ own_cell l.width l.entries l.pivot_row l.pivot_column z;
  fits : (z : ℕ) → z < l.column → (z ≡ l.pivot_column → ⊥) → QuotientFits l.width l.entries l.pivot_row l.pivot_column z;
}

use Rattle.std.proofs.Common.{◌≡◌, ℕ, ◌+◌, ◌*◌, ◌<◌, ◌≤◌, ◌⊎◌}
use Rattle.mpc_runs.specs.Table.{cell_at}
use Rattle.mpc_runs.specs.Exchange.{row_at}
use Rattle.mpc_simplex.proofs.tableau.put_row.Given as goal

abbrev pub invariant-loop-column : goal.invariant-loop-column
invariant-loop-column l = record {
  done : (z : ℕ) → z < l.column → cell_at l.width l.entries l.pivot_row z ≡ row_at l.row z;
  kept : (q : ℕ) → (q < l.pivot_row * l.width) ⊎ (l.pivot_row * l.width + l.column ≤ q) → row_at l.entries q ≡ row_at l.initial.entries q;
}

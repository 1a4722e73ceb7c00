use Rattle.std.proofs.Common.{◌≡◌, ℕ, ◌+◌, ◌*◌, ◌<◌, ◌≤◌, ◌⊎◌}
use Rattle.mpc_runs.specs.Table.{cell_at}
use Rattle.mpc_runs.specs.Exchange.{changed_cell, row_at, EntryFits}
use Rattle.mpc_simplex.proofs.tableau.change_row.Given as goal

abbrev pub invariant-loop-column : goal.invariant-loop-column
invariant-loop-column l = record {
  done : (z : ℕ) → z < l.column → cell_at l.width l.entries l.target z ≡ changed_cell l.width l.initial.entries (row_at l.row) l.pivot_column l.target z;
  kept : (q : ℕ) → (q < l.target * l.width) ⊎ (l.target * l.width + l.column ≤ q) → row_at l.entries q ≡ row_at l.initial.entries q;
  fits : (z : ℕ) → z < l.column → EntryFits (cell_at l.width l.initial.entries l.target l.pivot_column) (cell_at l.width l.initial.entries l.target z) (row_at l.row z) l.pivot_column z;
}

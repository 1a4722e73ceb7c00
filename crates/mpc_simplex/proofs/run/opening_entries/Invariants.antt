use Rattle.std.proofs.Common.{◌≡◌, ℕ, ◌*◌, ◌<◌, length}
use Rattle.mpc_rows.specs.LinearSystem.{entry}
use Rattle.mpc_runs.specs.Table.{cell_at}
use Rattle.mpc_simplex.proofs.run.opening_entries.Given as goal

abbrev pub invariant-loop-i : goal.invariant-loop-i
invariant-loop-i l = record {
  size : length l.entries.items ≡ l.i * l.system.width;
  at : (t j : ℕ) → t < l.i → j < l.system.width → cell_at l.system.width l.entries.items t j ≡ entry l.system t j;
}

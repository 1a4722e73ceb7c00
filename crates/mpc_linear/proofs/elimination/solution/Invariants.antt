use Rattle.std.proofs.Common.{◌≡◌}
use Rattle.mpc_linear.proofs.TableLemmas.{joined_rows, end_row}
use Rattle.mpc_linear.proofs.elimination.solution.Given as goal

abbrev pub invariant-loop-row : goal.invariant-loop-row
invariant-loop-row l = l.entries.items ≡ joined_rows (end_row l.rows l.cols l.table) l.row

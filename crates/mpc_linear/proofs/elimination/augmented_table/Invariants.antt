use Rattle.std.proofs.Common.{◌≡◌}
use Rattle.mpc_linear.proofs.TableLemmas.{joined_rows, beside_row}
use Rattle.mpc_linear.proofs.elimination.augmented_table.Given as goal

abbrev pub invariant-loop-i : goal.invariant-loop-i
invariant-loop-i l = l.table.items ≡ joined_rows (beside_row l.matrix l.rhs) l.i

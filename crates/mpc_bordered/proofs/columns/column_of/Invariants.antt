use Rattle.std.proofs.Common.{◌≡◌, length}
use Rattle.mpc_space.specs.Matrix.{entry}
use Rattle.mpc_bordered.specs.Kept.{IsFormedColumn}
use Rattle.mpc_bordered.proofs.columns.column_of.Given as goal

abbrev pub invariant-loop-row : goal.invariant-loop-row
invariant-loop-row l = record { size : length l.column.items ≡ l.row; formed : IsFormedColumn (entry l.table) 0 l.at_column l.column.items }

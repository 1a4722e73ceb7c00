use Rattle.std.proofs.Common.{◌≡◌, ◌*◌, length}
use Rattle.mpc_space.specs.Matrix.{height, entry}
use Rattle.mpc_bordered.specs.Kept.{AreFormed}
use Rattle.mpc_bordered.proofs.columns.columns.Given as goal

abbrev pub invariant-loop-at_column : goal.invariant-loop-at_column
invariant-loop-at_column l = record { size : length l.entries.items ≡ l.at_column * height l.table; formed : AreFormed (entry l.table) l.front (height l.table) l.at_column l.entries.items }

use Rattle.std.proofs.Common.{◌≡◌, ◌-◌}
use Rattle.mpc_plant.specs.CheckedPlant.{row_difference, first_passing, differs}
use Rattle.mpc_plant.proofs.weights.difference_in_row.Given as goal

abbrev pub invariant-loop-column : goal.invariant-loop-column
invariant-loop-column l = row_difference l.matrix.rows l.size l.row ≡ first_passing (differs l.matrix.rows l.row) l.column (l.size - l.column)

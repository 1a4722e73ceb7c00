use Rattle.std.proofs.Common.{◌≡◌, [], get_or, set}
use Rattle.mpc_plant.proofs.MatrixRows.{mixed}
use Rattle.mpc_plant.proofs.matrices.write_row.Given as goal

abbrev pub invariant-loop-column : goal.invariant-loop-column
invariant-loop-column l = record {
  rows : l.matrix.rows ≡ set l.initial.matrix.rows l.at_row (mixed l.column l.row (get_or l.initial.matrix.rows l.at_row []));
  columns : l.matrix.columns ≡ l.initial.matrix.columns;
}

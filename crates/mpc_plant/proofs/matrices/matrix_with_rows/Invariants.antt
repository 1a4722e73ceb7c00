use Rattle.std.proofs.Common.{◌≡◌, length, take}
use Rattle.mpc_space.specs.Matrix.{height, IsRectangular}
use Rattle.mpc_plant.specs.CheckedEntries.{vector_of}
use Rattle.mpc_plant.proofs.Each.{EachFrom}
use Rattle.mpc_plant.proofs.matrices.matrix_with_rows.Given as goal

abbrev pub invariant-loop-i : goal.invariant-loop-i
invariant-loop-i l = record {
  so_far : EachFrom (vector_of l.columns) l.items l.i (take l.i l.matrix.rows);
  tall : height l.matrix ≡ length l.items;
  wide : l.matrix.columns ≡ l.columns;
  rectangular : IsRectangular l.matrix;
}

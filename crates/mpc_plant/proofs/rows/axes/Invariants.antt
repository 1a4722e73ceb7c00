use Rattle.std.proofs.Common.{◌≡◌, All, length}
use Rattle.mpc_plant.specs.Limits.{IsCoordinate}
use Rattle.mpc_plant.specs.CheckedRows.{axis_of}
use Rattle.mpc_plant.proofs.Each.{EachFrom}
use Rattle.mpc_plant.proofs.rows.axes.Given as goal

abbrev pub invariant-loop-i : goal.invariant-loop-i
invariant-loop-i l = record {
  so_far : EachFrom (axis_of) l.items l.i l.grid;
  len : length l.grid ≡ l.i;
  fit : All (IsCoordinate) l.grid;
}

use Rattle.std.proofs.Common.{◌≡◌, All, length}
use Rattle.mpc_plant.specs.Limits.{FitsRow}
use Rattle.mpc_plant.specs.CheckedRows.{stage_row_of}
use Rattle.mpc_plant.proofs.Each.{EachFrom}
use Rattle.mpc_plant.proofs.rows.stage_rows.Given as goal

abbrev pub invariant-loop-i : goal.invariant-loop-i
invariant-loop-i l = record {
  so_far : EachFrom (stage_row_of l.states l.inputs) l.items l.i l.rows;
  len : length l.rows ≡ l.i;
  fit : All (FitsRow l.states l.inputs) l.rows;
}

use Rattle.std.proofs.Common.{◌≡◌, length}
use Rattle.mpc_rows.specs.Run.{steps_from}
use Rattle.mpc_runs.specs.Table.{IsTable, position_of}
use Rattle.mpc_runs.proofs.Loop.{Going}
use Rattle.mpc_simplex.proofs.run.run.Given as goal

abbrev pub invariant-steps : goal.invariant-steps
invariant-steps l = record {
  going : Going l.system (position_of l.system.width l.seats.items l.entries.items);
  table : IsTable l.system l.variables l.seats.items l.entries.items;
  row : length l.row.items ≡ l.system.width;
  sides : length l.sides.items ≡ l.system.width;
  values : length l.values.items ≡ l.system.width;
  list : length l.list.items ≡ length l.system.rows;
}

abbrev pub decreases-steps : goal.decreases-steps
decreases-steps l = steps_from l.system (position_of l.system.width l.seats.items l.entries.items)

-- The room that a run takes before its first step.
use Rattle.std.specs.Prelude.{◌≡◌, length}
use Rattle.mpc_rows.specs.LinearSystem.{LinearSystem, height}
use Rattle.mpc_simplex.specs.declared.run.Room.{Room}

-- it is as large as the run of the system needs
pub record HasRoom (s : LinearSystem) (room : Room) : Type 0 where
  pub row : length room.row.items ≡ s.width
  pub sides : length room.sides.items ≡ s.width
  pub values : length room.values.items ≡ s.width
  pub multipliers : length room.multipliers.items ≡ height s

-- The table of the laws of a program whose candidates are all decided.
use Rattle.std.specs.Prelude.{◌≡◌, All}
use Rattle.mpc_space.specs.Definite.{IsDefinite}
use Rattle.mpc_space.specs.Matrix.{height}
use Rattle.mpc_plant.specs.declared.plants.Plant.{Plant}
use Rattle.mpc_rows.specs.Candidates.{IsTable}
use Rattle.mpc_rows.specs.SetRuns.{LawRowsFit}
use Rattle.mpc_claim.specs.Board.{Board}
use Rattle.mpc_synthesis.specs.Programs.{HasVerdicts}
use Rattle.mpc_synthesis.specs.declared.parts.Tabled.{Tabled}

-- the program of the registry, which is convex, with the table of its laws, whose rows fit
pub record IsTabledBy (board : Board) (table : Tabled) : Type 0 where
  pub program_is : table.program ≡ board.program
  pub definite : IsDefinite table.program.h.rows
  pub is_table : IsTable table.program table.laws
  pub rows_fit : All (λ law. LawRowsFit table.program law (height table.program.g)) table.laws

-- the program of the plant, with the table of its laws, whose rows fit
pub record HasTable (plant : Plant) (table : Tabled) : Type 0 where
  pub verdicts : HasVerdicts plant table.program
  pub is_table : IsTable table.program table.laws
  pub rows_fit : All (λ law. LawRowsFit table.program law (height table.program.g)) table.laws

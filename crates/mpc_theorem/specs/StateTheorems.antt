-- Why `solve` and `robust` refuse a plant's program, and a row that is tightened.
use Rattle.std.specs.Prelude.{ℕ, ◌-◌, ◌↔◌, List}
use Rattle.mpc_exact.specs.Rational.{ℚ}
use Rattle.mpc_space.specs.Matrix.{entry}
use Rattle.mpc_plant.specs.declared.lists.PlantRow.{PlantRow}
use Rattle.mpc_plant.specs.declared.plants.Plant.{Plant}
use Rattle.mpc_rows.specs.declared.places.Place.{Place}
use Rattle.mpc_rows.specs.declared.programs.Qp.{Qp}
use Rattle.mpc_condense.specs.Stages.{IsRow}
use Rattle.mpc_condense.specs.Causes.{row_count}
use Rattle.mpc_tight.specs.Tightening.{RowFits, IsWideRow}
use Rattle.mpc_condense.specs.Convex.{IsConvexProgram}
use Rattle.mpc_condense.specs.Refusals.{IsFirstWidePlace}
use Rattle.mpc_states.specs.Outcomes.{WithProgram}
use Rattle.mpc_theorem.specs.Firsts.{IsFirstOf, numbered}
use Rattle.mpc_theorem.specs.Programs.{IsWideProgram}

-- no number on the way to this row of the program, from 1, is too wide as it is tightened
abbrev pub TightRowFits : Plant → List ℚ → Qp → ℕ → Type 0
TightRowFits plant noise qp i = (k : ℕ) (row : PlantRow) → IsRow plant (i - 1) k row → RowFits plant noise (entry qp.w (i - 1) 0) row.x k

-- WideLater of a row: the program is convex, and this row, from 1, is the first with a number that is too wide
pub record IsWideTightRow (plant : Plant) (noise : List ℚ) (row : ℕ) : Type 0 where
  pub qp : Qp
  pub is_convex : IsConvexProgram plant qp
  pub first : IsFirstOf (TightRowFits plant noise qp) (numbered (λ i. i) 1 (row_count plant)) row

-- ---- laws
abbrev pub SolvesTooWide : Type 0
SolvesTooWide = (plant : Plant) (place : Place) → IsFirstWidePlace plant place ↔ IsWideProgram plant place

abbrev pub TightensWideRow : Type 0
TightensWideRow = (plant : Plant) (noise : List ℚ) (row : ℕ) → WithProgram plant (λ qp. IsWideRow plant noise qp.w row) ↔ IsWideTightRow plant noise row

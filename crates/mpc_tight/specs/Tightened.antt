-- The tightened program of a plant.
use Rattle.std.specs.Prelude.{◌≡◌, ℕ, ◌*◌, ◌<◌, ◌≤◌, ◌↔◌, List, length}
use Rattle.mpc_exact.specs.Rational.{ℚ, ◌-ℚ◌}
use Rattle.mpc_space.specs.Vector.{IsSymmetric}
use Rattle.mpc_space.specs.Matrix.{RationalMatrix, height, entry}
use Rattle.mpc_linear.specs.Shape.{HasShape}
use Rattle.mpc_plant.specs.declared.lists.PlantRow.{PlantRow}
use Rattle.mpc_plant.specs.declared.plants.Plant.{Plant}
use Rattle.mpc_plant.specs.Trajectory.{IsSequence, cost}
use Rattle.mpc_rows.specs.declared.programs.Qp.{Qp}
use Rattle.mpc_rows.specs.ActiveSets.{extended, MeetsRows}
use Rattle.mpc_condense.specs.Condensed.{stacked, program_cost, counts_of}
use Rattle.mpc_condense.specs.Stages.{IsRow}
use Rattle.mpc_condense.specs.Causes.{row_count}
use Rattle.mpc_tight.specs.Disturbed.{IsRobustlyAdmissible}
use Rattle.mpc_tight.specs.Tightening.{tightening, RowsFit}

-- the first rows have their tightening taken away from their first number, and all else is as it was
pub record RowsTightened (plant : Plant) (noise : List ℚ) (old new : RationalMatrix) (n : ℕ) : Type 0 where
  pub shape : HasShape new (height old) old.columns
  pub rows : (i k : ℕ) (row : PlantRow) → i < n → IsRow plant i k row → entry new i 0 ≡ entry old i 0 -ℚ tightening plant noise row.x k
  pub ahead : (i : ℕ) → n ≤ i → entry new i 0 ≡ entry old i 0
  pub others : (i j : ℕ) → 0 < j → entry new i j ≡ entry old i j

-- of the program in the middle the right sides are tightened, and all else is as it was; no number on the way is too wide
pub record IsTightened (plant : Plant) (noise : List ℚ) (qp tight : Qp) : Type 0 where
  pub same_h : tight.h ≡ qp.h
  pub same_f : tight.f ≡ qp.f
  pub same_y : tight.y ≡ qp.y
  pub same_g : tight.g ≡ qp.g
  pub same_counts : tight.counts ≡ qp.counts
  pub rows : RowsTightened plant noise qp.w tight.w (row_count plant)
  pub fits : RowsFit plant noise qp.w (row_count plant)

-- the program has the plant's cost, and its rows hold exactly for the robustly admissible sequences
pub record IsRobustProgram (qp : Qp) (plant : Plant) (noise : List ℚ) : Type 0 where
  pub counts_are : qp.counts ≡ counts_of plant.grid
  pub unknowns_are : height qp.h ≡ plant.p * plant.horizon
  pub h_symmetric : IsSymmetric qp.h.rows
  pub same_cost : (t : List ℚ) (v : List (List ℚ)) → length t ≡ plant.n → IsSequence plant v → cost plant t v ≡ program_cost qp (extended t) (stacked v)
  pub same_sequences : (t : List ℚ) (v : List (List ℚ)) → length t ≡ plant.n → IsSequence plant v → MeetsRows qp t (stacked v) ↔ IsRobustlyAdmissible plant noise t v

-- What holds of a program of a plant: it admits the same sequences, it costs the same but for a number that the state alone determines, and
-- one place of condensing at most is the first that is too wide.
use Rattle.std.specs.Prelude.{◌≡◌, ℕ, ◌<◌, List, length, ◌↔◌}
use Rattle.mpc_exact.specs.Rational.{ℚ, ◌+ℚ◌}
use Rattle.mpc_space.specs.Vector.{mat_vec, quadratic}
use Rattle.mpc_space.specs.Optimality.{objective}
use Rattle.mpc_plant.specs.declared.lists.PlantRow.{PlantRow}
use Rattle.mpc_plant.specs.declared.plants.Plant.{Plant}
use Rattle.mpc_plant.specs.Trajectory.{IsSequence, IsAdmissible, cost}
use Rattle.mpc_rows.specs.declared.places.Place.{Place}
use Rattle.mpc_rows.specs.declared.programs.Qp.{Qp}
use Rattle.mpc_rows.specs.ActiveSets.{extended, MeetsRows}
use Rattle.mpc_condense.specs.Condensed.{stacked, IsCondensed}
use Rattle.mpc_condense.specs.Stages.{IsRow}
use Rattle.mpc_condense.specs.Causes.{AllFit, IsWidePlace, row_count}

-- a sequence is admissible exactly where the program's rows hold
abbrev pub SameSequences : Type 0
SameSequences =
    (plant : Plant) (qp : Qp) (t : List ℚ) (v : List (List ℚ)) → IsCondensed qp plant → length t ≡ plant.n → IsSequence plant v
    → IsAdmissible plant t v ↔ MeetsRows qp t (stacked v)

-- the cost is z'h z + 2 z'f c and c'y c, which is the same for all sequences
abbrev pub SameCosts : Type 0
SameCosts =
    (plant : Plant) (qp : Qp) (t : List ℚ) (v : List (List ℚ)) → IsCondensed qp plant → length t ≡ plant.n → IsSequence plant v
    → cost plant t v ≡ objective qp.h.rows (mat_vec qp.f.rows (extended t)) (stacked v) +ℚ quadratic qp.y.rows (extended t)

-- no place is too wide where every number fits
abbrev pub NoWidePlace : Type 0
NoWidePlace = (plant : Plant) (place : Place) → AllFit plant → ¬ IsWidePlace plant place

-- two places that are each the first that is too wide are one
abbrev pub OneWidePlace : Type 0
OneWidePlace = (plant : Plant) (a b : Place) → IsWidePlace plant a → IsWidePlace plant b → a ≡ b

-- each row of the plant at a step is a row of the program
abbrev pub RowsWithin : Type 0
RowsWithin = (plant : Plant) (i k : ℕ) (row : PlantRow) → IsRow plant i k row → i < row_count plant

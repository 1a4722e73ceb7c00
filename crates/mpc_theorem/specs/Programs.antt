-- Why a plant's program is refused: at the first place that is too wide, or at the first pivot that isn't positive.
use Rattle.std.specs.Prelude.{◌≡◌, ℕ, ◌+◌, ◌-◌, ◌⊎◌, List, ◌++◌, All, pos}
use Rattle.mpc_exact.specs.Rational.{int, ◌≤ℚ◌, ◌<ℚ◌}
use Rattle.mpc_space.specs.Definite.{IsDefinite}
use Rattle.mpc_space.specs.Matrix.{height, entry}
use Rattle.mpc_plant.specs.declared.lists.PlantRow.{PlantRow}
use Rattle.mpc_plant.specs.declared.plants.Plant.{Plant}
use Rattle.mpc_rows.specs.declared.places.Place.{Place}
use Rattle.mpc_rows.specs.declared.places.Place.TheVariants.{State, Cost, Row, Pivot}
use Rattle.mpc_rows.specs.declared.programs.Qp.{Qp}
use Rattle.mpc_definite.specs.Pivots.{pivot, left_of, StepFits}
use Rattle.mpc_condense.specs.Condensed.{IsCondensed}
use Rattle.mpc_condense.specs.Motion.{StateFits, CostFits, RowFits}
use Rattle.mpc_condense.specs.Stages.{IsRow}
use Rattle.mpc_condense.specs.Causes.{row_count}
use Rattle.mpc_theorem.specs.Firsts.{IsFirstOf, numbered}

-- ---- condensing
-- the states behind the first, the cost at each step, and the rows
abbrev pub condensing_places : Plant → List Place
condensing_places plant = numbered State 1 plant.horizon ++ (numbered Cost 0 (plant.horizon + 1) ++ numbered Row 1 (row_count plant))

-- no number of this place is too wide
abbrev pub CondensingFits : Plant → Place → Type 0
CondensingFits plant (State k) = StateFits plant (k - 1)
CondensingFits plant (Cost k) = CostFits plant k
CondensingFits plant (Row i) = (k : ℕ) (row : PlantRow) → IsRow plant (i - 1) k row → RowFits plant k row
CondensingFits plant other = Unit {0}

-- the plant's program, which is condensed without a number that is too wide
pub record HasProgram (plant : Plant) (qp : Qp) : Type 0 where
  pub condensed : IsCondensed qp plant
  pub fits : All (CondensingFits plant) (condensing_places plant)

-- ---- the pivots of the cost's matrix h, by their numbers from 1
-- the pivot is positive, and no number of its step is too wide
abbrev pub PivotPasses : Qp → ℕ → Type 0
PivotPasses qp j = (int (pos 0) <ℚ pivot (entry qp.h) (j - 1)) × StepFits (left_of (entry qp.h) (j - 1)) (height qp.h) (j - 1)

-- this pivot is the first that doesn't pass
pub record StopsAtPivot (plant : Plant) (qp : Qp) (j : ℕ) : Type 0 where
  pub program : HasProgram plant qp
  pub first : IsFirstOf (PivotPasses qp) (numbered (λ i. i) 1 (height qp.h)) j

-- ---- the refusals
-- NotDefinite: the first pivot that doesn't pass isn't positive; so the cost's matrix isn't positive definite
pub record IsNotDefinite (plant : Plant) (j : ℕ) : Type 0 where
  pub qp : Qp
  pub stops : StopsAtPivot plant qp j
  pub sign : pivot (entry qp.h) (j - 1) ≤ℚ int (pos 0)
  pub not_definite : ¬ IsDefinite qp.h.rows

-- TooWide: the first pivot that doesn't pass is positive, so that a number of its step is too wide
pub record IsWidePivot (plant : Plant) (place : Place) : Type 0 where
  pub qp : Qp
  pub j : ℕ
  pub place_is : place ≡ Pivot j
  pub stops : StopsAtPivot plant qp j
  pub sign : int (pos 0) <ℚ pivot (entry qp.h) (j - 1)

-- the first place of a plant's program that is too wide
abbrev pub IsWideProgram : Plant → Place → Type 0
IsWideProgram plant place = IsFirstOf (CondensingFits plant) (condensing_places plant) place ⊎ IsWidePivot plant place

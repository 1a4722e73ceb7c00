-- The first place at which a number is too wide.
use Rattle.std.specs.Prelude.{◌≡◌, ℕ, ◌⊎◌, ◌+◌, ◌-◌, ◌*◌, ◌<◌, ◌≤◌, length}
use Rattle.mpc_plant.specs.declared.lists.PlantRow.{PlantRow}
use Rattle.mpc_plant.specs.declared.plants.Plant.{Plant}
use Rattle.mpc_rows.specs.declared.places.Place.{Place}
use Rattle.mpc_rows.specs.declared.places.Place.TheVariants.{State, Cost, Row}
use Rattle.mpc_condense.specs.declared.errors.CondenseError.{CondenseError}
use Rattle.mpc_condense.specs.declared.errors.CondenseError.TheVariants.{Wide, NoMemory}
use Rattle.mpc_condense.specs.declared.errors.StageError.{StageError}
use Rattle.mpc_condense.specs.declared.errors.StageError.TheVariants.{TooWide, OutOfMemory}
use Rattle.mpc_condense.specs.Motion.{StateFits, CostFits, RowFits}
use Rattle.mpc_condense.specs.Stages.{IsRow}

-- where the error is that a number is too wide
abbrev pub IfTooWide : Type 0 → StageError → Type 0
IfTooWide P TooWide = P
IfTooWide P OutOfMemory = Unit {0}

-- the first steps of the motion fit; the costs at the first steps fit; the first rows fit
abbrev pub StatesFit : Plant → ℕ → Type 0
StatesFit plant n = (k : ℕ) → k < n → StateFits plant k

abbrev pub CostsFit : Plant → ℕ → Type 0
CostsFit plant n = (k : ℕ) → k < n → CostFits plant k

abbrev pub RowsFit : Plant → ℕ → Type 0
RowsFit plant n = (i k : ℕ) (row : PlantRow) → i < n → IsRow plant i k row → RowFits plant k row

-- the number of rows of the program
abbrev pub row_count : Plant → ℕ
row_count plant = plant.horizon * length plant.rows + length plant.terminal

-- every number fits
pub record AllFit (plant : Plant) : Type 0 where
  pub states : StatesFit plant plant.horizon
  pub costs : CostsFit plant (plant.horizon + 1)
  pub rows : RowsFit plant (row_count plant)

-- the state at step k, from 1, is the first that is too wide
pub record IsWideState (plant : Plant) (k : ℕ) : Type 0 where
  pub some : 0 < k
  pub within : k ≤ plant.horizon
  pub before : StatesFit plant (k - 1)
  pub here : StateFits plant (k - 1) → ⊥

-- all states fit, and the cost at step k, from 0, is the first that is too wide
pub record IsWideCost (plant : Plant) (k : ℕ) : Type 0 where
  pub within : k ≤ plant.horizon
  pub states : StatesFit plant plant.horizon
  pub before : CostsFit plant k
  pub here : CostFits plant k → ⊥

-- all states and costs fit, and row i, from 1, is the first that is too wide
pub record IsWideRow (plant : Plant) (i : ℕ) : Type 0 where
  pub some : 0 < i
  pub states : StatesFit plant plant.horizon
  pub costs : CostsFit plant (plant.horizon + 1)
  pub before : RowsFit plant (i - 1)
  pub step : ℕ
  pub row : PlantRow
  pub is_row : IsRow plant (i - 1) step row
  pub here : RowFits plant step row → ⊥

-- a state, a cost or a row is the first place at which a number is too wide
abbrev pub IsWidePlace : Plant → Place → Type 0
IsWidePlace plant place =
    ((k : ℕ) × (place ≡ State k) × IsWideState plant k)
    ⊎ ((k : ℕ) × (place ≡ Cost k) × IsWideCost plant k)
    ⊎ ((i : ℕ) × (place ≡ Row i) × IsWideRow plant i)

abbrev pub IsCause : Plant → CondenseError → Type 0
IsCause plant (Wide place) = IsWidePlace plant place
IsCause plant NoMemory = Unit {0}

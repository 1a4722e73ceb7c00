-- What comes of a plant: it is refused for one cause, or what was asked for exists.
use Rattle.std.specs.Prelude.{◌≡◌, ℕ}
use Rattle.mpc_plant.specs.declared.plants.Plant.{Plant}
use Rattle.mpc_rows.specs.declared.programs.Qp.{Qp}
use Rattle.mpc_rows.specs.declared.places.Place.{Place}
use Rattle.mpc_controller.specs.Parts.{Parts}
use Rattle.mpc_synthesis.specs.Programs.{HasVerdicts}
use Rattle.mpc_synthesis.specs.Controllers.{IsController}
use Rattle.mpc_condense.specs.Refusals.{IsNotDefiniteAt}
use Rattle.mpc_synthesis.specs.Refusals.{Extent, verdicts, controller, FirstWide}

pub data Outcome : Type 0 where
  not_definite : ℕ → Outcome
  too_wide : Place → Outcome
  complete : Outcome

-- nothing of the plant is refused
abbrev pub IsComplete : Extent → Plant → Type 0
IsComplete verdicts plant = (qp : Qp) × HasVerdicts plant qp
IsComplete controller plant = (qp : Qp) × ((parts : Parts) × IsController plant qp parts)

abbrev pub IsOutcome : Extent → Plant → Outcome → Type 0
IsOutcome extent plant (not_definite pivot) = IsNotDefiniteAt plant pivot
IsOutcome extent plant (too_wide place) = FirstWide plant extent place
IsOutcome extent plant complete = IsComplete extent plant

-- at most one outcome is that of a plant
abbrev pub OneOutcome : Type 0
OneOutcome = (extent : Extent) (plant : Plant) (one other : Outcome) → IsOutcome extent plant one → IsOutcome extent plant other → one ≡ other

-- Why a plant's file is refused, and a controller's by the commands that check it.
use Rattle.std.specs.Prelude.{◌≡◌, ◌≢◌, List, ℕ}
use Rattle.mpc_plant.specs.declared.faults.PlantError.{PlantError}
use Rattle.mpc_plant.specs.declared.faults.PlantError.TheVariants.{Bad, NoMemory as NoPlantMemory}
use Rattle.mpc_controller.specs.Parts.{Parts}
use Rattle.mpc_check.specs.Acceptance.{IsFound}
use Rattle.mpc_recur.specs.Targets.{IsFound as IsStepFound}
use Rattle.mpc_status.specs.declared.status.Status.{Status}
use Rattle.mpc_status.specs.declared.status.Status.TheVariants.{Done, BadPlant, NoMemory}
use Rattle.mpc_cli.specs.declared.commands.FileCommand.{FileCommand}
use Rattle.mpc_cli.specs.declared.commands.FileCommand.TheVariants.{Check, Reply, Convert, Safe}
use Rattle.mpc_cli.specs.Ends.{ComesOf}
use Rattle.mpc_cli.specs.Statuses.{finding_status, step_status, ComesToFile}

-- the status of a plant's file that isn't read
abbrev pub IsPlantStatus : PlantError → Status → Type 0
IsPlantStatus (Bad kind path) status = status ≡ BadPlant kind path
IsPlantStatus NoPlantMemory status = status ≡ NoMemory

-- the commands that check
abbrev pub Checks : FileCommand → Type 0
Checks Check = Unit {0}
Checks Reply = ⊥
Checks Convert = ⊥
Checks Safe = Unit {0}

-- the status is due, and isn't Done; nothing is said of want of memory
abbrev pub IsRefusal : FileCommand → List ℕ → Status → Type 0
IsRefusal c file status = status ≢ NoMemory → ComesToFile c file status × (status ≢ Done)

-- the same for each command that checks
abbrev pub IsCheckRefusal : List ℕ → Status → Type 0
IsCheckRefusal file status = (c : FileCommand) → Checks c → IsRefusal c file status

-- the status of what the checker finds of a controller, likewise
abbrev pub IsFinding : Parts → Status → Type 0
IsFinding parts status = status ≢ NoMemory → ComesOf (IsFound parts) finding_status status

-- and that of the first step that isn't ruled out
abbrev pub IsStepFinding : Parts → Status → Type 0
IsStepFinding parts status = status ≢ NoMemory → ComesOf (IsStepFound parts) step_status status

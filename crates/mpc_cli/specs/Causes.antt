-- When each status is due to a command, for an input that isn't too long: a definition for each.
use Rattle.std.specs.Prelude.{◌≡◌, ℕ, ◌<◌, ◌≤◌, ◌⊎◌, List, None, Some, length}
use Rattle.mpc_exact.specs.Rational.{ℚ}
use Rattle.mpc_plant.specs.declared.plants.Plant.{Plant}
use Rattle.mpc_plant.specs.declared.faults.PlantKind.{PlantKind}
use Rattle.mpc_rows.specs.declared.places.Place.{Place}
use Rattle.mpc_rows.specs.declared.programs.Qp.{Qp}
use Rattle.mpc_condense.specs.Causes.{row_count}
use Rattle.mpc_controller.specs.Parts.{Parts}
use Rattle.mpc_grammar.specs.declared.errors.FileKind.{FileKind}
use Rattle.mpc_grammar.specs.FileGrammar.{FailsAt, IsSpelled}
use Rattle.mpc_check.specs.declared.answers.Spot.{Spot}
use Rattle.mpc_check.specs.Findings.{refused, too_wide}
use Rattle.mpc_check.specs.Acceptance.{Accepts, FindsBehind}
use Rattle.mpc_recur.specs.declared.answers.Next.{Next}
use Rattle.mpc_recur.specs.Findings.{too_wide as too_wide_step}
use Rattle.mpc_recur.specs.Targets.{IsFound as IsStepFound}
use Rattle.mpc_table.specs.Cut.{head_of}
use Rattle.mpc_tight.specs.Tightening.{RowsFit}
use Rattle.mpc_condense.specs.Convex.{IsConvexProgram}
use Rattle.mpc_states.specs.NoisePart.{plant_part, noise_in}
use Rattle.mpc_sections.specs.Sections.{sections_of}
use Rattle.mpc_trace.specs.DrillPlant.{IsDrillPlant}
use Rattle.mpc_synthesis.specs.Refusals.{controller}
use Rattle.mpc_synthesis.specs.Outcomes.{IsComplete}
use Rattle.mpc_theorem.specs.PlantFile.{IsPlantText}
use Rattle.mpc_theorem.specs.PlantFaults.{IsFaultyText}
use Rattle.mpc_theorem.specs.Programs.{IsNotDefinite, IsWideProgram}
use Rattle.mpc_theorem.specs.SafeFiles.{IsSafeFile, IsUnsafeFile}
use Rattle.mpc_theorem.specs.Stages.{IsWideStage}
use Rattle.mpc_theorem.specs.StateTheorems.{IsWideTightRow}
use Rattle.mpc_status.specs.declared.late.LatePlace.{LatePlace}
use Rattle.mpc_status.specs.declared.late.LatePlace.TheVariants.{Next as NextPlace, Tight}
use Rattle.mpc_status.specs.declared.status.Status.{Status}
use Rattle.mpc_status.specs.declared.status.Status.TheVariants.{Done, BadPlant, NotDefinite, TooWide, BadFile, Refused, Unsafe, WideLater, BadNoise, TooManyPlants}
use Rattle.mpc_cli.specs.declared.commands.Command.{Command}
use Rattle.mpc_cli.specs.declared.commands.Command.TheVariants.{OfPlant, OfFile, OfStates, Drill, Fleet}
use Rattle.mpc_cli.specs.declared.commands.StateCommand.TheVariants.{Solve, Robust}
use Rattle.mpc_cli.specs.declared.commands.FileCommand.{FileCommand}
use Rattle.mpc_cli.specs.declared.commands.FileCommand.TheVariants.{Check, Reply, Convert, Safe}
use Rattle.mpc_cli.specs.Commands.{plant_text}
use Rattle.mpc_cli.specs.Extents.{extent_of}

-- ---- what an input has
-- a text is the file of a plant of which something holds
pub record OfItsPlant (file : List ℕ) (holds : Plant → Type 0) : Type 0 where
  pub plant : Plant
  pub text : IsPlantText file plant
  pub so : holds plant

-- a text spells a controller of which something holds
pub record OfItsController (file : List ℕ) (holds : Parts → Type 0) : Type 0 where
  pub parts : Parts
  pub spelled : IsSpelled file parts
  pub so : holds parts

-- the head has a plant's file and its noise, of which something holds
pub record OfItsNoise (input : List ℕ) (holds : Plant → List ℚ → Type 0) : Type 0 where
  pub plant : Plant
  pub text : IsPlantText (plant_part (head_of input)) plant
  pub noise : List ℚ
  pub noise_is : noise_in input plant.n ≡ Some noise
  pub so : holds plant noise

-- of the drill's plant something holds
pub record OfDrill (number : ℕ) (holds : Plant → Type 0) : Type 0 where
  pub plant : Plant
  pub is : IsDrillPlant number plant
  pub so : holds plant

-- something holds of the controller that a command checks
abbrev pub OfChecked : FileCommand → List ℕ → (Parts → Type 0) → Type 0
OfChecked Check input holds = OfItsController input holds
OfChecked Safe input holds = OfItsController input holds
OfChecked other input holds = ⊥

-- something holds of the command's plant: that of its plant's file, of the controller that it checks, or of the drill
abbrev pub OfThePlant : Command → List ℕ → (Plant → Type 0) → Type 0
OfThePlant (OfPlant c) input holds = OfItsPlant (plant_text c input) holds
OfThePlant (OfFile c) input holds = OfChecked c input (λ parts. holds parts.plant)
OfThePlant (OfStates Solve) input holds = OfItsPlant (head_of input) holds
OfThePlant (OfStates Robust) input holds = OfItsNoise input (λ plant noise. holds plant)
OfThePlant (Drill number) input holds = OfDrill number holds
OfThePlant (Fleet workers) input holds = ⊥

-- ---- the refusals
-- BadPlant: the plant's file has faults, and this is the first one
abbrev pub IsBadPlant : Command → List ℕ → PlantKind → List ℕ → Type 0
IsBadPlant (OfPlant c) input kind path = IsFaultyText (plant_text c input) kind path
IsBadPlant (OfStates Solve) input kind path = IsFaultyText (head_of input) kind path
IsBadPlant (OfStates Robust) input kind path = IsFaultyText (plant_part (head_of input)) kind path
IsBadPlant other input kind path = ⊥

-- BadNoise: the plant's file is followed by no noise, or by one that isn't spelled
abbrev pub IsBadNoise : Command → List ℕ → Type 0
IsBadNoise (OfStates Robust) input = OfItsPlant (plant_part (head_of input)) (λ plant. noise_in input plant.n ≡ None)
IsBadNoise other input = ⊥

-- TooWide behind the plant's program: at a stage on the way to its controller, or at a condition of the checker
abbrev pub IsWideBehind : Command → List ℕ → Place → Type 0
IsWideBehind (OfPlant c) input place = OfItsPlant (plant_text c input) (λ plant. IsWideStage (extent_of c) plant place)
IsWideBehind (OfFile c) input place = OfChecked c input (λ parts. FindsBehind parts (too_wide place))
IsWideBehind (Drill number) input place = OfDrill number (λ plant. IsWideStage controller plant place)
IsWideBehind other input place = ⊥

-- BadFile: this line of the controller's file, from 1, is the first that fails
abbrev pub IsBadFile : Command → List ℕ → FileKind → ℕ → Type 0
IsBadFile (OfFile Reply) input kind number = FailsAt (head_of input) kind number
IsBadFile (OfFile c) input kind number = FailsAt input kind number
IsBadFile other input kind number = ⊥

-- Refused: the first condition of the checker behind the program that isn't met is at this spot
abbrev pub IsRefused : Command → List ℕ → Spot → Type 0
IsRefused (OfFile c) input spot = OfChecked c input (λ parts. FindsBehind parts (refused spot))
IsRefused other input spot = ⊥

-- Unsafe: the closed loop of an accepted controller leaves at this target
abbrev pub IsUnsafe : Command → List ℕ → Next → List (ℚ × ℚ) → Type 0
IsUnsafe (OfFile Safe) input one pairs = IsUnsafeFile input one pairs
IsUnsafe other input one pairs = ⊥

-- the checker accepts, and of the closed loop's targets this is the first that isn't ruled out: a number of its test is too wide
pub record IsWideTarget (one : Next) (parts : Parts) : Type 0 where
  pub accepts : Accepts parts
  pub found : IsStepFound parts (too_wide_step one)

-- WideLater: at a target, or at a row that is tightened
abbrev pub IsWideLater : Command → List ℕ → LatePlace → Type 0
IsWideLater (OfFile Safe) input (NextPlace one) = OfItsController input (IsWideTarget one)
IsWideLater (OfStates Robust) input (Tight row) = OfItsNoise input (λ plant noise. IsWideTightRow plant noise row)
IsWideLater other input place = ⊥

-- TooManyPlants: there are more than eight sections
abbrev pub HasTooMany : Command → List ℕ → Type 0
HasTooMany (Fleet workers) input = 8 < length (sections_of input)
HasTooMany other input = ⊥

-- ---- Done
-- the plant's program is convex, and each of its rows can be tightened
pub record CanTighten (plant : Plant) (noise : List ℚ) : Type 0 where
  pub qp : Qp
  pub is_convex : IsConvexProgram plant qp
  pub rows_fit : RowsFit plant noise qp.w (row_count plant)

-- nothing is refused: what was asked for exists, or the file spells a controller, or one that passes its checks
abbrev pub Passes : Command → List ℕ → Type 0
Passes (OfPlant c) input = OfItsPlant (plant_text c input) (IsComplete (extent_of c))
Passes (OfFile Check) input = OfItsController input Accepts
Passes (OfFile Reply) input = (parts : Parts) × IsSpelled (head_of input) parts
Passes (OfFile Convert) input = (parts : Parts) × IsSpelled input parts
Passes (OfFile Safe) input = IsSafeFile input
Passes (OfStates Solve) input = OfItsPlant (head_of input) (λ plant. (qp : Qp) × IsConvexProgram plant qp)
Passes (OfStates Robust) input = OfItsNoise input CanTighten
Passes (Drill number) input = OfDrill number (IsComplete controller)
Passes (Fleet workers) input = length (sections_of input) ≤ 8

-- ---- all of them
abbrev pub IsDueTo : Command → List ℕ → Status → Type 0
IsDueTo c input Done = Passes c input
IsDueTo c input (BadPlant kind path) = IsBadPlant c input kind path
IsDueTo c input (NotDefinite pivot) = OfThePlant c input (λ plant. IsNotDefinite plant pivot)
IsDueTo c input (TooWide place) = OfThePlant c input (λ plant. IsWideProgram plant place) ⊎ IsWideBehind c input place
IsDueTo c input (BadFile kind number) = IsBadFile c input kind number
IsDueTo c input (Refused spot) = IsRefused c input spot
IsDueTo c input (Unsafe one pairs) = IsUnsafe c input one pairs
IsDueTo c input (WideLater place) = IsWideLater c input place
IsDueTo c input BadNoise = IsBadNoise c input
IsDueTo c input TooManyPlants = HasTooMany c input
IsDueTo c input other = ⊥

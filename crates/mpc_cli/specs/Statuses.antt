-- The status of each outcome of a library, and what comes to a command.
use Rattle.std.specs.Prelude.{ℕ, List, ◌↔◌}
use Rattle.mpc_plant.specs.declared.faults.PlantKind.{PlantKind}
use Rattle.mpc_plant.specs.declared.plants.Plant.{Plant}
use Rattle.mpc_plant.specs.WholePlant.{ReadsAsPlant, IsFirstFault}
use Rattle.mpc_check.specs.Findings.{Finding, refused, too_wide as too_wide_check, not_definite as not_definite_cost}
use Rattle.mpc_files.specs.FileOutcomes.{FileReading, fails, spells, IsFileReading, FileOutcome, bad_file, finds, accepted, IsFileOutcome}
use Rattle.mpc_synthesis.specs.Refusals.{Extent}
use Rattle.mpc_synthesis.specs.Outcomes.{Outcome, not_definite, too_wide, complete, IsOutcome}
use Rattle.mpc_status.specs.declared.status.Status.{Status}
use Rattle.mpc_status.specs.declared.status.Status.TheVariants.{Done, BadPlant, NotDefinite, TooWide, BadFile, Refused, Unsafe, WideLater, BadNoise}
use Rattle.mpc_trace.specs.Drills.{IsDrillOutcome}
use Rattle.mpc_table.specs.Cut.{head_of}
use Rattle.mpc_status.specs.declared.late.LatePlace.TheVariants.{Next as NextPlace, Tight}
use Rattle.mpc_condense.specs.Outcomes.{ProgramOutcome, not_definite as not_definite_program, too_wide as too_wide_program, convex}
use Rattle.mpc_states.specs.Outcomes.{SolveOutcome, bad_plant as bad_solve_plant, of_program, IsSolveOutcome, RobustOutcome, bad_robust_plant, bad_noise, of_robust_program, wide_row, robust_replies, IsRobustOutcome}
use Rattle.mpc_recur.specs.Findings.{Finding as Step, reached, too_wide as too_wide_step}
use Rattle.mpc_files.specs.SafetyOutcomes.{SafetyOutcome, bad_file as bad_safety_file, finds as finds_first, steps, safe}
use Rattle.mpc_theorem.specs.SafeFiles.{IsSafetyDue}
use Rattle.mpc_cli.specs.declared.commands.Command.{Command}
use Rattle.mpc_cli.specs.declared.commands.Command.TheVariants.{OfPlant, OfFile, OfStates, Drill, Fleet}
use Rattle.mpc_cli.specs.declared.commands.StateCommand.{StateCommand}
use Rattle.mpc_cli.specs.declared.commands.StateCommand.TheVariants.{Solve, Robust}
use Rattle.mpc_cli.specs.declared.commands.FileCommand.{FileCommand}
use Rattle.mpc_cli.specs.declared.commands.FileCommand.TheVariants.{Check, Reply, Convert, Safe}
use Rattle.mpc_cli.specs.Causes.{IsDueTo}
use Rattle.mpc_cli.specs.Commands.{plant_text}
use Rattle.mpc_cli.specs.Ends.{ComesOf}
use Rattle.mpc_cli.specs.Extents.{extent_of}

-- ---- of a plant
abbrev pub outcome_status : Outcome → Status
outcome_status (not_definite pivot) = NotDefinite pivot
outcome_status (too_wide place) = TooWide place
outcome_status complete = Done

-- what comes of the file of a plant: its first fault, or an outcome of the plant
pub data PlantEnd : Type 0 where
  bad_plant : PlantKind → List ℕ → PlantEnd
  ends : Outcome → PlantEnd

-- a text reads as a plant of which something holds
pub record ReadsWith (file : List ℕ) (holds : Plant → Type 0) : Type 0 where
  pub plant : Plant
  pub read : ReadsAsPlant file plant
  pub so : holds plant

abbrev pub IsPlantEnd : Extent → List ℕ → PlantEnd → Type 0
-- a check of the plant's file fails, and this is the first one
IsPlantEnd extent file (bad_plant kind path) = IsFirstFault file kind path
-- the first pivot that isn't positive, the first place with a number that is too wide, or what was asked for
IsPlantEnd extent file (ends outcome) = ReadsWith file (λ plant. IsOutcome extent plant outcome)

abbrev pub plant_status : PlantEnd → Status
plant_status (bad_plant kind path) = BadPlant kind path
plant_status (ends outcome) = outcome_status outcome

-- ---- of a controller's file
abbrev pub finding_status : Finding → Status
finding_status (refused spot) = Refused spot
finding_status (too_wide_check place) = TooWide place
finding_status (not_definite_cost pivot) = NotDefinite pivot

abbrev pub file_status : FileOutcome → Status
file_status (bad_file kind number) = BadFile kind number
file_status (finds finding) = finding_status finding
file_status accepted = Done

abbrev pub reading_status : FileReading → Status
reading_status (fails kind number) = BadFile kind number
reading_status (spells parts) = Done

-- ---- of a controller's file, and where the closed loop goes
abbrev pub step_status : Step → Status
step_status (reached one pairs) = Unsafe one pairs
step_status (too_wide_step one) = WideLater (NextPlace one)

abbrev pub safety_status : SafetyOutcome → Status
safety_status (bad_safety_file kind number) = BadFile kind number
safety_status (finds_first finding) = finding_status finding
safety_status (steps step) = step_status step
safety_status safe = Done

-- ---- of recorded states
abbrev pub program_status : ProgramOutcome → Status
program_status (not_definite_program pivot) = NotDefinite pivot
program_status (too_wide_program place) = TooWide place
program_status convex = Done

abbrev pub solve_status : SolveOutcome → Status
solve_status (bad_solve_plant kind path) = BadPlant kind path
solve_status (of_program outcome) = program_status outcome

abbrev pub robust_status : RobustOutcome → Status
robust_status (bad_robust_plant kind path) = BadPlant kind path
robust_status bad_noise = BadNoise
robust_status (of_robust_program outcome) = program_status outcome
robust_status (wide_row row) = WideLater (Tight row)
robust_status robust_replies = Done

-- ---- what comes to a command
abbrev pub ComesToFile : FileCommand → List ℕ → Status → Type 0
ComesToFile Check input status = ComesOf (IsFileOutcome input) file_status status
ComesToFile Reply input status = ComesOf (IsFileReading (head_of input)) reading_status status
ComesToFile Convert input status = ComesOf (IsFileReading input) reading_status status
ComesToFile Safe input status = ComesOf (IsSafetyDue input) safety_status status

abbrev pub ComesToStates : StateCommand → List ℕ → Status → Type 0
ComesToStates Solve input status = ComesOf (IsSolveOutcome input) solve_status status
ComesToStates Robust input status = ComesOf (IsRobustOutcome input) robust_status status

-- the status is that of an outcome of the command's library, for an input that isn't too long
abbrev pub ComesTo : Command → List ℕ → Status → Type 0
ComesTo (OfPlant c) input status = ComesOf (IsPlantEnd (extent_of c) (plant_text c input)) plant_status status
ComesTo (OfFile c) input status = ComesToFile c input status
ComesTo (OfStates c) input status = ComesToStates c input status
ComesTo (Drill number) input status = ComesOf (IsDrillOutcome number) outcome_status status
ComesTo (Fleet workers) input status = IsDueTo (Fleet workers) input status

-- a status is due just where it comes
abbrev pub DueIsWhatComes : Type 0
DueIsWhatComes = (c : Command) (input : List ℕ) (status : Status) → ComesTo c input status ↔ IsDueTo c input status

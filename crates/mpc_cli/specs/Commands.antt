-- The commands: the words of each, which of them read and wait, and where the plant or the controller stands in the input.
use Rattle.std.specs.Prelude.{◌≡◌, ℕ, ◌<◌, ◌≤◌, ◌⊎◌, List, [], ◌∷◌, codes, decimal}
use Rattle.mpc_table.specs.Cut.{head_of}
use Rattle.mpc_cli.specs.declared.commands.Command.{Command}
use Rattle.mpc_cli.specs.declared.commands.Command.TheVariants.{OfPlant, OfFile, OfStates, Drill, Fleet}
use Rattle.mpc_cli.specs.declared.commands.StateCommand.{StateCommand}
use Rattle.mpc_cli.specs.declared.commands.StateCommand.TheVariants.{Solve, Robust}
use Rattle.mpc_cli.specs.declared.commands.PlantCommand.{PlantCommand}
use Rattle.mpc_cli.specs.declared.commands.PlantCommand.TheVariants.{Run, Compile, Trace}
use Rattle.mpc_cli.specs.declared.commands.FileCommand.{FileCommand}
use Rattle.mpc_cli.specs.declared.commands.FileCommand.TheVariants.{Check, Reply, Convert, Safe}

-- ---- words
-- a number from the first to the last
abbrev pub IsFromTo : ℕ → ℕ → ℕ → Type 0
IsFromTo first last number = (first ≤ number) × (number ≤ last)

-- a number of workers that may be asked for
abbrev pub IsWorkerCount : ℕ → Type 0
IsWorkerCount workers = IsFromTo 1 32 workers

-- the number of a drill
abbrev pub IsDrillNumber : ℕ → Type 0
IsDrillNumber number = IsFromTo 0 95 number

-- the name, the option `--workers` and a number in its decimal digits, without a leading zero
abbrev pub with_workers : List ℕ → ℕ → List (List ℕ)
with_workers name workers = name ∷ codes "--workers" ∷ decimal workers ∷ []

-- the words are the name alone, which asks for one worker, or the name with a number of workers
abbrev pub AsksFor : List ℕ → ℕ → List (List ℕ) → Type 0
AsksFor name workers words = ((workers ≡ 1) × (words ≡ name ∷ [])) ⊎ (IsWorkerCount workers × (words ≡ with_workers name workers))

-- the words are those of a command on a plant
abbrev pub AsksOfPlant : PlantCommand → List (List ℕ) → Type 0
AsksOfPlant Run words = words ≡ codes "run" ∷ []
AsksOfPlant (Compile workers) words = AsksFor (codes "compile") workers words
AsksOfPlant (Trace workers) words = AsksFor (codes "trace") workers words

-- the word of a command on a controller's file
abbrev pub file_word : FileCommand → List ℕ
file_word Check = codes "check"
file_word Reply = codes "reply"
file_word Convert = codes "convert"
file_word Safe = codes "safe"

-- the word of a command on recorded states
abbrev pub state_word : StateCommand → List ℕ
state_word Solve = codes "solve"
state_word Robust = codes "robust"

-- the words are those of the command
abbrev pub Names : Command → List (List ℕ) → Type 0
Names (OfPlant c) words = AsksOfPlant c words
Names (OfFile c) words = words ≡ file_word c ∷ []
Names (OfStates c) words = words ≡ state_word c ∷ []
Names (Drill number) words = IsDrillNumber number × (words ≡ codes "drill" ∷ decimal number ∷ [])
Names (Fleet workers) words = AsksFor (codes "fleet") workers words

abbrev pub IsCommand : List (List ℕ) → Type 0
IsCommand words = (c : Command) × Names c words

-- ---- what a command does
-- how many workers decide the plant's active sets
abbrev pub workers_of : PlantCommand → ℕ
workers_of Run = 1
workers_of (Compile workers) = workers
workers_of (Trace workers) = workers

-- the command has a number of workers that may be asked for
abbrev pub HasCount : Command → Type 0
HasCount (OfPlant c) = IsWorkerCount (workers_of c)
HasCount (OfFile c) = Unit {0}
HasCount (OfStates c) = Unit {0}
HasCount (Drill number) = Unit {0}
HasCount (Fleet workers) = IsWorkerCount workers

-- two workers or more wait for one another, as do those of a drill and of a fleet
abbrev pub CommandWaits : Command → Type 0
CommandWaits (OfPlant c) = 1 < workers_of c
CommandWaits (OfFile c) = ⊥
CommandWaits (OfStates c) = ⊥
CommandWaits (Drill number) = Unit {0}
CommandWaits (Fleet workers) = Unit {0}

-- a drill reads nothing
abbrev pub CommandReads : Command → Type 0
CommandReads (OfPlant c) = Unit {0}
CommandReads (OfFile c) = Unit {0}
CommandReads (OfStates c) = Unit {0}
CommandReads (Drill number) = ⊥
CommandReads (Fleet workers) = Unit {0}

-- the words name a command that waits
pub record Waits (words : List (List ℕ)) : Type 0 where
  pub command : Command
  pub named : Names command words
  pub waits : CommandWaits command

-- the words name a command that reads its input
pub record Reads (words : List (List ℕ)) : Type 0 where
  pub command : Command
  pub named : Names command words
  pub reads : CommandReads command

-- ---- the parts of an input
-- the file of the plant: what stands before the lines of counts, or all
abbrev pub plant_text : PlantCommand → List ℕ → List ℕ
plant_text Run input = head_of input
plant_text (Compile workers) input = input
plant_text (Trace workers) input = input

-- How the parts of the top call end.
use Rattle.std.specs.Prelude.{◌≡◌, ℕ, ◌+◌, ◌<◌, ◌≤◌, List, Result, Ok, Err, length, ◌++◌}
use Rattle.mpc_port.specs.Faults.{Rose}
use Rattle.mpc_port.specs.Passing.{Passed, PassedToEnd, TookFront}
use Rattle.mpc_plant.specs.declared.plants.Plant.{Plant}
use Rattle.mpc_plant.specs.declared.faults.PlantError.{PlantError}
use Rattle.mpc_plant.specs.declared.faults.PlantError.TheVariants.{Bad, NoMemory as OutOfPlantMemory}
use Rattle.mpc_table.specs.ReplyLines.{AreReplies}
use Rattle.std.specs.Str.Lines.{lines}
use Rattle.mpc_synthesis.specs.Outcomes.{IsOutcome}
use Rattle.mpc_trace.specs.Histories.{IsTraceOf}
use Rattle.mpc_status.specs.declared.status.Status.{Status}
use Rattle.mpc_status.specs.declared.status.Status.TheVariants.{Done, BadPlant, ReadFault, WriteFault, NoMemory}
use Rattle.mpc_status.specs.StatusText.{line_of}
use Rattle.mpc_cli.specs.declared.answer.Answer.{Answer}
use Rattle.mpc_cli.specs.declared.inputs.Halt.{Halt}
use Rattle.mpc_cli.specs.declared.inputs.Halt.TheVariants.{SourceFailed, OutOfMemory}
use Rattle.mpc_cli.specs.declared.inputs.Input.{Input}
use Rattle.mpc_cli.specs.declared.inputs.Input.TheVariants.{Whole, TooLong}
use Rattle.mpc_cli.specs.declared.commands.Command.{Command}
use Rattle.mpc_cli.specs.declared.commands.PlantCommand.{PlantCommand}
use Rattle.mpc_cli.specs.declared.commands.PlantCommand.TheVariants.{Run, Compile, Trace}
use Rattle.mpc_cli.specs.Commands.{CommandReads, Reads}
use Rattle.mpc_cli.specs.ControllerFiles.{IsFileOf}
use Rattle.mpc_cli.specs.Extents.{extent_of}
use Rattle.mpc_cli.specs.Ends.{ComesOf, IsTextAt}
use Rattle.mpc_cli.specs.StatedOutputs.{IsStatedOutput, IsStatedOf}
use Rattle.mpc_cli.specs.Statuses.{outcome_status, ComesTo}
use Rattle.mpc_cli.specs.Answers.{input_limit, IsDueFor, IsAnswer, IsWhole}

-- ---- what a plant is answered with
-- the output: one reply line a line of counts, the file of the plant's controller, or the history of its candidates
abbrev pub IsOutputFor : PlantCommand → Plant → List ℕ → List ℕ → Type 0
IsOutputFor Run plant counts text = AreReplies plant (lines counts) text
IsOutputFor (Compile workers) plant counts text = IsFileOf plant text
IsOutputFor (Trace workers) plant counts text = IsTraceOf workers plant text

pub record IsPlantAnswer (c : PlantCommand) (plant : Plant) (counts : List ℕ) (status : Status) (text : List ℕ) : Type 0 where
  pub due : ComesOf (IsOutcome (extent_of c) plant) outcome_status status
  pub text_is : IsTextAt (IsOutputFor c plant counts) status text

-- a plant's file is refused with the kind and the path of its fault
abbrev pub IsPlantRefusal : PlantError → Status → List ℕ → Type 0
IsPlantRefusal (Bad kind path) status text = (status ≡ BadPlant kind path) × (text ≡ line_of (BadPlant kind path))
IsPlantRefusal OutOfPlantMemory status text = ⊥

-- ---- what a command is answered with
-- for an input that isn't too long
pub record IsAnswerTo (c : Command) (input : List ℕ) (status : Status) (text : List ℕ) : Type 0 where
  pub due : ComesTo c input status
  pub text_is : IsTextAt (IsStatedOutput c input) status text

-- and for every input
pub record IsAnswerFor (c : Command) (input : List ℕ) (status : Status) (text : List ℕ) : Type 0 where
  pub due : IsDueFor c input status
  pub text_is : IsTextAt (IsStatedOutput c input) status text

-- ---- what comes of the source
-- some bytes passed, so many at most
pub record HasCome (most : ℕ) (given given_after : List (List ℕ)) : Type 0 where
  pub bytes : List ℕ
  pub passed : Passed given given_after bytes
  pub few : length bytes ≤ most

-- the input of a command came: what the source gave to its end, nothing for a command that reads nothing, or more than the limit
abbrev pub IsInput : Command → List (List ℕ) → List (List ℕ) → Input → Type 0
IsInput c given given_after (Whole bytes) = Passed given given_after bytes.items × (length bytes.items ≤ input_limit) × (CommandReads c → PassedToEnd given given_after bytes.items)
IsInput c given given_after TooLong = CommandReads c × ((bytes : List ℕ) × Passed given given_after bytes × (input_limit < length bytes) × (length bytes ≤ input_limit + 1))

-- why nothing is to be written: the source failed before more than the limit came, or memory ran out
abbrev pub ExplainsHalt : Command → List (List ℕ) → List (List ℕ) → ℕ → ℕ → Halt → Type 0
ExplainsHalt c given given_after faults faults_after SourceFailed = CommandReads c × Rose faults faults_after × HasCome input_limit given given_after
ExplainsHalt c given given_after faults faults_after OutOfMemory = HasCome (input_limit + 1) given given_after

-- ---- what the words are answered with
-- a status and a text answer the bytes that came
pub record IsSomeAnswer (words : List (List ℕ)) (given given_after : List (List ℕ)) (status : Status) (text : List ℕ) : Type 0 where
  pub input : List ℕ
  pub passed : Passed given given_after input
  pub few : length input ≤ input_limit + 1
  pub reads : input_limit < length input → Reads words
  pub whole : IsWhole words given given_after input
  pub answer : IsAnswer words input status text
  pub stated : status ≡ Done → IsStatedOf words input text

abbrev pub ExplainsRunHalt : List (List ℕ) → List (List ℕ) → List (List ℕ) → ℕ → ℕ → Halt → Type 0
ExplainsRunHalt words given given_after faults faults_after SourceFailed = Reads words × Rose faults faults_after × HasCome input_limit given given_after
ExplainsRunHalt words given given_after faults faults_after OutOfMemory = HasCome (input_limit + 1) given given_after

-- a command's status and text, likewise
pub record IsSomeAnswerFor (c : Command) (given given_after : List (List ℕ)) (status : Status) (text : List ℕ) : Type 0 where
  pub input : List ℕ
  pub passed : Passed given given_after input
  pub few : length input ≤ input_limit + 1
  pub reads : input_limit < length input → CommandReads c
  pub whole : CommandReads c → length input ≤ input_limit → PassedToEnd given given_after input
  pub answer : IsAnswerFor c input status text

-- ---- the ends of writing a status's text
pub data Finishes (status : Status) (text taken taken_after : List ℕ) (faults faults_after : ℕ) : Status → Type 0 where
  wrote_all : taken_after ≡ taken ++ text → Finishes status text taken taken_after faults faults_after status
  sink_failed : Rose faults faults_after → TookFront taken taken_after text → Finishes status text taken taken_after faults faults_after WriteFault
  sink_full : TookFront taken taken_after text → Finishes status text taken taken_after faults faults_after NoMemory

-- the ends of a run that has an answer or none: without one, nothing is written
abbrev pub Closes : Result Answer Halt → List ℕ → List ℕ → ℕ → ℕ → Status → Type 0
Closes (Ok answer) taken taken_after faults faults_after status = Finishes answer.status answer.text.items taken taken_after faults faults_after status
Closes (Err SourceFailed) taken taken_after faults faults_after status = (status ≡ ReadFault) × (taken_after ≡ taken)
Closes (Err OutOfMemory) taken taken_after faults faults_after status = (status ≡ NoMemory) × (taken_after ≡ taken)

-- Which of the texts that mean the same is written, where the stated rules determine it.
use Rattle.std.specs.Prelude.{◌≡◌, ℕ, List, ◌++◌}
use Rattle.mpc_port.specs.Passing.{Passed}
use Rattle.mpc_plant.specs.declared.plants.Plant.{Plant}
use Rattle.mpc_files.specs.declared.answers.Safety.TheVariants.{Safe as SafeAnswer}
use Rattle.mpc_files.specs.SafetyAnswers.{IsAnswerToFile}
use Rattle.mpc_trace.specs.Histories.{IsTraceOf}
use Rattle.mpc_trace.specs.declared.drills.Drilled.{Drilled}
use Rattle.mpc_trace.specs.Drills.{IsDrilled, drill_text}
use Rattle.mpc_sections.specs.Sections.{sections_of}
use Rattle.mpc_status.specs.declared.status.Status.{Status}
use Rattle.mpc_status.specs.declared.status.Status.TheVariants.{Done}
use Rattle.mpc_theorem.specs.PlantFile.{IsPlantText}
use Rattle.mpc_theorem.specs.FileOutputs.{IsTheFile}
use Rattle.mpc_theorem.specs.Fleets.{AreAnswered}
use Rattle.mpc_cli.specs.declared.commands.Command.{Command}
use Rattle.mpc_cli.specs.declared.commands.Command.TheVariants.{OfPlant, OfFile, OfStates, Drill, Fleet}
use Rattle.mpc_cli.specs.declared.commands.PlantCommand.TheVariants.{Run, Compile, Trace}
use Rattle.mpc_cli.specs.declared.commands.FileCommand.TheVariants.{Safe}
use Rattle.mpc_cli.specs.Commands.{Names}
use Rattle.mpc_cli.specs.Outputs.{IsPlantOutput, IsSectionAnswer, IsOutput}
use Rattle.mpc_cli.specs.Answers.{IsWhole}

-- the input is the file of a plant, and the text is that of the legal, finished history of a registry of its program's candidates
pub record IsTheTrace (workers : ℕ) (input output : List ℕ) : Type 0 where
  pub plant : Plant
  pub read : IsPlantText input plant
  pub traced : IsTraceOf workers plant output

-- the line of the counts of what was made for the drill's plant
pub record IsTheDrillLine (number : ℕ) (output : List ℕ) : Type 0 where
  pub counts : Drilled
  pub drilled : IsDrilled number counts
  pub written : output ≡ drill_text counts

-- Which text it is, where that isn't said by what it means: the history of `trace` is that of a registry, since each such text is (`TextIsTrace` of
-- `mpc_theorem`), and each target of a loop that is safe is ruled out (`DueIsFound`).
abbrev pub IsStated : Command → List ℕ → List ℕ → Type 0
IsStated (OfPlant Run) input output = Unit {0}
IsStated (OfPlant (Compile workers)) input output = IsTheFile input output
IsStated (OfPlant (Trace workers)) input output = Unit {0}
IsStated (OfFile c) input output = Unit {0}
IsStated (OfStates c) input output = Unit {0}
IsStated (Drill number) input output = IsTheDrillLine number output
IsStated (Fleet workers) input output = AreAnswered (IsSectionAnswer IsTheFile) 1 (sections_of input) output

-- what the text means, and which it is
abbrev pub IsStatedOutput : Command → List ℕ → List ℕ → Type 0
IsStatedOutput (OfPlant Run) input output = IsPlantOutput Run input output
IsStatedOutput (OfPlant (Compile workers)) input output = IsPlantOutput (Compile workers) input output × IsTheFile input output
IsStatedOutput (OfPlant (Trace workers)) input output = IsPlantOutput (Trace workers) input output × IsTheTrace workers input output
IsStatedOutput (OfFile Safe) input output = IsOutput (OfFile Safe) input output × IsAnswerToFile input SafeAnswer
IsStatedOutput (OfFile other) input output = IsOutput (OfFile other) input output
IsStatedOutput (OfStates c) input output = IsOutput (OfStates c) input output
IsStatedOutput (Drill number) input output = IsOutput (Drill number) input output × IsTheDrillLine number output
IsStatedOutput (Fleet workers) input output = IsOutput (Fleet workers) input output × AreAnswered (IsSectionAnswer IsTheFile) 1 (sections_of input) output

-- of the command that the words name
pub record IsStatedOf (words : List (List ℕ)) (input output : List ℕ) : Type 0 where
  pub command : Command
  pub named : Names command words
  pub stated : IsStated command input output

-- the sink took just such a text for the bytes that passed
pub record TookStated (words : List (List ℕ)) (given given_after : List (List ℕ)) (taken taken_after : List ℕ) : Type 0 where
  pub input : List ℕ
  pub passed : Passed given given_after input
  pub whole : IsWhole words given given_after input
  pub text : List ℕ
  pub stated : IsStatedOf words input text
  pub wrote : taken_after ≡ taken ++ text

abbrev pub StatesOutput : List (List ℕ) → List (List ℕ) → List (List ℕ) → List ℕ → List ℕ → Status → Type 0
StatesOutput words given given_after taken taken_after status = status ≡ Done → TookStated words given given_after taken taken_after

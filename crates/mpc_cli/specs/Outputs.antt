-- What is written where a command answers.
use Rattle.std.specs.Prelude.{◌≡◌, ℕ, List, codes}
use Rattle.mpc_plant.specs.declared.plants.Plant.{Plant}
use Rattle.mpc_table.specs.Cut.{head_of, count_lines}
use Rattle.mpc_sections.specs.Sections.{sections_of}
use Rattle.mpc_status.specs.declared.status.Status.{Status}
use Rattle.mpc_theorem.specs.PlantFile.{IsPlantText}
use Rattle.mpc_theorem.specs.PlantOutputs.{IsReplies, IsSolved, IsRobustlySolved, IsSolvedExactly, IsRobustlySolvedExactly}
use Rattle.mpc_theorem.specs.FileOutputs.{IsCompiled, IsRightFile, AreFileReplies, IsConverted}
use Rattle.mpc_theorem.specs.DrillLines.{IsDrillLine}
use Rattle.mpc_theorem.specs.Fleets.{AreAnswered}
use Rattle.mpc_theorem.specs.Traces.{IsTraceText}
use Rattle.mpc_theorem.specs.SafeFiles.{SpellsRightForever}
use Rattle.mpc_cli.specs.declared.commands.Command.{Command}
use Rattle.mpc_cli.specs.declared.commands.Command.TheVariants.{OfPlant, OfFile, OfStates, Drill, Fleet}
use Rattle.mpc_cli.specs.declared.commands.StateCommand.{StateCommand}
use Rattle.mpc_cli.specs.declared.commands.StateCommand.TheVariants.{Solve, Robust}
use Rattle.mpc_cli.specs.declared.commands.PlantCommand.{PlantCommand}
use Rattle.mpc_cli.specs.declared.commands.PlantCommand.TheVariants.{Run, Compile, Trace}
use Rattle.mpc_cli.specs.declared.commands.FileCommand.{FileCommand}
use Rattle.mpc_cli.specs.declared.commands.FileCommand.TheVariants.{Check, Reply, Convert, Safe}
use Rattle.mpc_cli.specs.Ends.{IsTextAt}
use Rattle.mpc_cli.specs.Causes.{IsDueTo}

-- the output of `trace`: the input is the file of a plant, and the text is a history in which so many workers claim and deliver its program's
-- candidates
pub record IsTrace (workers : ℕ) (input output : List ℕ) : Type 0 where
  pub plant : Plant
  pub read : IsPlantText input plant
  pub traced : IsTraceText workers plant output

-- `run` writes one reply line a line of counts, and at each grid state the reply that is right
abbrev pub IsPlantOutput : PlantCommand → List ℕ → List ℕ → Type 0
IsPlantOutput Run input output = IsReplies input output
IsPlantOutput (Compile workers) input output = IsCompiled input output
IsPlantOutput (Trace workers) input output = IsTrace workers input output

-- The output of a command on a controller's file: that the controller is accepted, and it replies rightly at every point of its plant's
-- box, also between the states of the grid; its replies to the lines of counts, of a controller that needn't have been checked; or its text
-- in version 3; or that its closed loop is right forever: from every point of the box with an admissible sequence, after every number of steps,
-- the state is in the box and the reply is the first move of the cheapest admissible sequence.
abbrev pub IsFileOutput : FileCommand → List ℕ → List ℕ → Type 0
IsFileOutput Check input output = IsRightFile input × (output ≡ codes "accepted\n")
IsFileOutput Reply input output = AreFileReplies (head_of input) (count_lines input) output
IsFileOutput Convert input output = IsConverted input output
IsFileOutput Safe input output = SpellsRightForever input × (output ≡ codes "safe\n")

-- what `compile` answers to a section by itself: the status that is due, and its text
pub record IsSectionAnswer (IsFile : List ℕ → List ℕ → Type 0) (section : List ℕ) (status : Status) (text : List ℕ) : Type 0 where
  pub due : IsDueTo (OfPlant (Compile 1)) section status
  pub text_is : IsTextAt (IsFile section) status text

-- The output of a command on recorded states: one reply line a line of counts, at each grid state the reply that is right, for `robust` under the
-- disturbances that may come, or `too wide`; and that stands exactly where a number of the state's own run is too wide.
abbrev pub IsStateOutput : StateCommand → List ℕ → List ℕ → Type 0
IsStateOutput Solve input output = IsSolved input output × IsSolvedExactly input output
IsStateOutput Robust input output = IsRobustlySolved input output × IsRobustlySolvedExactly input output

abbrev pub IsOutput : Command → List ℕ → List ℕ → Type 0
IsOutput (OfPlant c) input output = IsPlantOutput c input output
IsOutput (OfFile c) input output = IsFileOutput c input output
IsOutput (OfStates c) input output = IsStateOutput c input output
IsOutput (Drill number) input output = IsDrillLine number output
-- each section is answered as it is by itself, under its heading, whatever the number of workers
IsOutput (Fleet workers) input output = AreAnswered (IsSectionAnswer IsCompiled) 1 (sections_of input) output

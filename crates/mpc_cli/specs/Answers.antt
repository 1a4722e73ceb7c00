-- What the command answers: its causes, its output, and what passes at its source and its sink.
use Rattle.std.specs.Prelude.{◌≡◌, ℕ, ◌+◌, ◌<◌, ◌≤◌, ◌⊎◌, List, ◌++◌, length}
use Rattle.mpc_port.specs.Faults.{Rose}
use Rattle.mpc_port.specs.Passing.{Passed, PassedToEnd, TookFront}
use Rattle.mpc_plant.specs.declared.plants.Plant.{Plant}
use Rattle.mpc_rows.specs.declared.programs.Qp.{Qp}
use Rattle.mpc_rows.specs.declared.places.Place.{Place}
use Rattle.mpc_space.specs.Definite.{IsDefinite}
use Rattle.mpc_condense.specs.Condensed.{IsCondensed}
use Rattle.mpc_controller.specs.Parts.{Parts}
use Rattle.mpc_grammar.specs.FileGrammar.{IsSpelled}
use Rattle.mpc_files.specs.FileOutcomes.{AcceptsFile}
use Rattle.mpc_synthesis.specs.Refusals.{Extent, controller, FirstWide}
use Rattle.mpc_trace.specs.DrillPlant.{IsDrillPlant}
use Rattle.mpc_table.specs.Cut.{head_of}
use Rattle.mpc_status.specs.declared.status.Status.{Status}
use Rattle.mpc_status.specs.declared.status.Status.TheVariants.{Done, Usage, ReadFault, WriteFault, TooLong, NoMemory}
use Rattle.mpc_cli.specs.declared.commands.Command.{Command}
use Rattle.mpc_cli.specs.declared.commands.Command.TheVariants.{OfPlant, OfFile, OfStates, Drill, Fleet}
use Rattle.mpc_cli.specs.declared.commands.StateCommand.{StateCommand}
use Rattle.mpc_cli.specs.declared.commands.StateCommand.TheVariants.{Solve, Robust}
use Rattle.mpc_cli.specs.declared.commands.FileCommand.{FileCommand}
use Rattle.mpc_cli.specs.declared.commands.FileCommand.TheVariants.{Check, Reply, Convert, Safe}
use Rattle.mpc_cli.specs.Commands.{Names, IsCommand, CommandReads, Reads, plant_text}
use Rattle.mpc_cli.specs.Causes.{IsDueTo}
use Rattle.mpc_cli.specs.Ends.{IsTextAt}
use Rattle.mpc_cli.specs.Extents.{extent_of}
use Rattle.mpc_cli.specs.Outputs.{IsOutput}
use Rattle.mpc_cli.specs.Statuses.{ReadsWith}
use Rattle.mpc_sections.specs.Sections.{sections_of}
use Rattle.mpc_exact.specs.Rational.{ℚ}
use Rattle.mpc_states.specs.StateTheorems.{NothingRefused as SolveRefusesNothing, NothingRobustRefused as RobustRefusesNothing}
use Rattle.mpc_theorem.specs.SafeFiles.{IsSafeFile}

-- the most bytes that an input has
abbrev pub input_limit : ℕ
input_limit = 16777216

-- ---- The causes
-- the status that is due to the command: one that reads more than the limit has an input that is too long
pub data IsDueFor (c : Command) (input : List ℕ) (status : Status) : Type 0 where
  too_long : CommandReads c → input_limit < length input → status ≡ TooLong → IsDueFor c input status
  in_limit : (CommandReads c → length input ≤ input_limit) → IsDueTo c input status → IsDueFor c input status

-- The status that is due for the words and the input, by devices that don't fail: words that name no command are refused, and else it is that
-- of the command.
pub data IsDue (words : List (List ℕ)) (input : List ℕ) (status : Status) : Type 0 where
  no_command : (¬ IsCommand words) → status ≡ Usage → IsDue words input status
  by_command : (c : Command) → Names c words → IsDueFor c input status → IsDue words input status

-- at most one status is due
abbrev pub OneStatus : Type 0
OneStatus = (words : List (List ℕ)) (input : List ℕ) (one other : Status) → IsDue words input one → IsDue words input other → one ≡ other

-- ---- Where nothing is refused
-- the Hessian of the plant's program is positive definite, and no number of the stated runs is too wide, as far as the plant is taken
pub record PassesAll (extent : Extent) (plant : Plant) : Type 0 where
  pub definite : (qp : Qp) → IsCondensed qp plant → IsDefinite qp.h.rows
  pub fits : (place : Place) → ¬ FirstWide plant extent place

-- the plant of the drill passes
pub record DrillPasses (number : ℕ) : Type 0 where
  pub plant : Plant
  pub is : IsDrillPlant number plant
  pub passes : PassesAll controller plant

abbrev pub FilePasses : FileCommand → List ℕ → Type 0
FilePasses Check input = AcceptsFile input
FilePasses Reply input = (parts : Parts) × IsSpelled (head_of input) parts
FilePasses Convert input = (parts : Parts) × IsSpelled input parts
FilePasses Safe input = IsSafeFile input

-- the head has the file of a plant whose program has a positive definite Hessian, and no number of condensing, the pivots and, where
-- disturbances may come, their rows is too wide
abbrev pub StatesPass : StateCommand → List ℕ → Type 0
StatesPass Solve input = (plant : Plant) × SolveRefusesNothing (head_of input) plant
StatesPass Robust input = (plant : Plant) × (noise : List ℚ) × RobustRefusesNothing input plant noise

-- nothing is refused: the plant's file passes all checks and its plant passes, or the file spells a controller, which is accepted where it is checked,
-- and safe, with nothing too wide, where its closed loop is followed; or the input has at most eight sections
abbrev pub RefusesNothing : Command → List ℕ → Type 0
RefusesNothing (OfPlant c) input = ReadsWith (plant_text c input) (PassesAll (extent_of c))
RefusesNothing (OfFile c) input = FilePasses c input
RefusesNothing (OfStates c) input = StatesPass c input
RefusesNothing (Drill number) input = DrillPasses number
RefusesNothing (Fleet workers) input = length (sections_of input) ≤ 8

-- then no status but Done is due to the command
abbrev pub PassingRefusesNothing : Type 0
PassingRefusesNothing = (c : Command) (input : List ℕ) (due : Status) → (CommandReads c → length input ≤ input_limit) → RefusesNothing c input → IsDueTo c input due → due ≡ Done

-- the words name a command to which, for an input that isn't too long, no refusal is due
pub record NothingRefused (words : List (List ℕ)) (input : List ℕ) : Type 0 where
  pub command : Command
  pub named : Names command words
  pub short : CommandReads command → length input ≤ input_limit
  pub passes : (due : Status) → IsDueTo command input due → due ≡ Done

-- then Done alone is due
abbrev pub PassingIsDone : Type 0
PassingIsDone = (words : List (List ℕ)) (input : List ℕ) (due : Status) → NothingRefused words input → IsDue words input due → due ≡ Done

-- ---- What is written
-- the output of the command that the words name
pub record IsOutputOf (words : List (List ℕ)) (input output : List ℕ) : Type 0 where
  pub command : Command
  pub named : Names command words
  pub output_is : IsOutput command input output

-- a status that is due, and its text
pub record IsAnswer (words : List (List ℕ)) (input : List ℕ) (status : Status) (text : List ℕ) : Type 0 where
  pub due : IsDue words input status
  pub text_is : IsTextAt (IsOutputOf words input) status text

-- ---- What passes in a call
-- the pieces that the source has given and the bytes that the sink has taken, before and after, and the counts of faults before and after
pub record Passage : Type 0 where
  pub given : List (List ℕ)
  pub given_after : List (List ℕ)
  pub read_faults : ℕ
  pub read_faults_after : ℕ
  pub taken : List ℕ
  pub taken_after : List ℕ
  pub write_faults : ℕ
  pub write_faults_after : ℕ

-- where the command reads and the bytes aren't too long, they are all that the source gave before it said that nothing is left
abbrev pub IsWhole : List (List ℕ) → List (List ℕ) → List (List ℕ) → List ℕ → Type 0
IsWhole words given given_after input = Reads words → length input ≤ input_limit → PassedToEnd given given_after input

-- the status is due, and the sink took just its text
pub record Answers (words : List (List ℕ)) (passage : Passage) (status : Status) (input : List ℕ) : Type 0 where
  pub whole : IsWhole words passage.given passage.given_after input
  pub text : List ℕ
  pub answer : IsAnswer words input status text
  pub wrote : passage.taken_after ≡ passage.taken ++ text

-- the sink took the first bytes of the text of a status that is due
pub record TookPart (words : List (List ℕ)) (passage : Passage) (input : List ℕ) : Type 0 where
  pub whole : IsWhole words passage.given passage.given_after input
  pub status : Status
  pub text : List ℕ
  pub answer : IsAnswer words input status text
  pub wrote : TookFront passage.taken passage.taken_after text

-- no count of faults rose
pub record IsQuiet (passage : Passage) : Type 0 where
  pub reads : ¬ Rose passage.read_faults passage.read_faults_after
  pub writes : ¬ Rose passage.write_faults passage.write_faults_after

-- a device failed, or memory ran out
abbrev pub IsFault : Status → Type 0
IsFault status = (status ≡ ReadFault) ⊎ ((status ≡ WriteFault) ⊎ (status ≡ NoMemory))

-- what the command answers for its words: each status comes just from its cause, and the sink took what is said here
pub record RunAnswers (words : List (List ℕ)) (passage : Passage) (status : Status) : Type 0 where
  -- the bytes that the source gave in this call, at most one more than the limit
  pub input : List ℕ
  pub passed : Passed passage.given passage.given_after input
  pub most : length input ≤ input_limit + 1
  -- Every status but those of a device that failed and of want of memory is due to these bytes, and the sink took just its text: at Done the
  -- output of the command, and else the status's line.
  pub answered : (¬ IsFault status) → Answers words passage status input
  -- the words name no command: then no other refusal comes, whatever the source and the sink do
  pub usage : status ≡ Usage → ¬ IsCommand words
  pub usage_first : (¬ IsCommand words) → (status ≡ Usage) ⊎ ((status ≡ WriteFault) ⊎ (status ≡ NoMemory))
  -- the bytes are more than the limit: likewise, whatever the source would have done afterwards
  pub too_long : status ≡ TooLong → input_limit < length input
  pub too_long_first : input_limit < length input → (status ≡ TooLong) ⊎ ((status ≡ WriteFault) ⊎ (status ≡ NoMemory))
  -- a fault of the source or the sink, after which the sink took nothing, or the first bytes of what was to be written
  pub read_fault : status ≡ ReadFault → Rose passage.read_faults passage.read_faults_after × (passage.taken_after ≡ passage.taken)
  pub write_fault : status ≡ WriteFault → Rose passage.write_faults passage.write_faults_after × TookPart words passage input
  -- want of memory, likewise
  pub no_memory : status ≡ NoMemory → (passage.taken_after ≡ passage.taken) ⊎ TookPart words passage input
  -- each cause brings its status, unless a device fails or memory runs out
  pub exact : (due : Status) → IsDue words input due → IsQuiet passage → (status ≡ due) ⊎ (status ≡ NoMemory)
  -- in particular, a command that refuses nothing is answered
  pub complete : NothingRefused words input → IsQuiet passage → (status ≡ Done) ⊎ (status ≡ NoMemory)

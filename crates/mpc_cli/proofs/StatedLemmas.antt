-- What a text means and which it is, and that the sink took it.
use Rattle.std.proofs.Common.{List, ℕ}
use Rattle.std.specs.Prelude.{Result, Ok, Err, IfOk}
use Rattle.mpc_status.specs.declared.status.Status.{Status}
use Rattle.mpc_cli.specs.declared.answer.Answer.{Answer}
use Rattle.mpc_cli.specs.declared.inputs.Halt.{Halt}
use Rattle.mpc_cli.specs.declared.inputs.Halt.TheVariants.{SourceFailed, OutOfMemory}
use Rattle.mpc_cli.specs.declared.commands.Command.{Command}
use Rattle.mpc_cli.specs.declared.commands.Command.TheVariants.{OfPlant, OfFile, OfStates, Drill, Fleet}
use Rattle.mpc_cli.specs.declared.commands.PlantCommand.TheVariants.{Run, Compile, Trace}
use Rattle.mpc_cli.specs.declared.commands.FileCommand.TheVariants.{Check, Reply, Convert, Safe}
use Rattle.mpc_cli.specs.Outputs.{IsOutput}
use Rattle.mpc_cli.specs.StatedOutputs.{IsStated, IsStatedOutput, StatesOutput}
use Rattle.mpc_cli.specs.Outcomes.{IsSomeAnswer, Closes, Finishes, wrote_all, sink_failed, sink_full}

pub meaning_of : (c : Command) (input output : List ℕ) → IsStatedOutput c input output → IsOutput c input output
meaning_of (OfPlant Run) input output h = h
meaning_of (OfPlant (Compile workers)) input output h = h.0
meaning_of (OfPlant (Trace workers)) input output h = h.0
meaning_of (OfFile Check) input output h = h
meaning_of (OfFile Reply) input output h = h
meaning_of (OfFile Convert) input output h = h
meaning_of (OfFile Safe) input output h = h.0
meaning_of (OfStates c) input output h = h
meaning_of (Drill number) input output h = h.0
meaning_of (Fleet workers) input output h = h.0

pub stated_of : (c : Command) (input output : List ℕ) → IsStatedOutput c input output → IsStated c input output
stated_of (OfPlant Run) input output h = tt
stated_of (OfPlant (Compile workers)) input output h = h.1
stated_of (OfPlant (Trace workers)) input output h = tt
stated_of (OfFile c) input output h = tt
stated_of (OfStates c) input output h = tt
stated_of (Drill number) input output h = h.1
stated_of (Fleet workers) input output h = h.1

finished_stated : (words : List (List ℕ)) (given given_after : List (List ℕ)) (taken taken_after : List ℕ) (faults faults_after : ℕ) (a s : Status) (text : List ℕ) → IsSomeAnswer words given given_after a text → Finishes a text taken taken_after faults faults_after s
    → StatesOutput words given given_after taken taken_after s
finished_stated words given given_after taken taken_after faults faults_after a _ text some (wrote_all wrote) = λ done. record { input = some.input; passed = some.passed; whole = some.whole; text = text; stated = some.stated done; wrote = wrote }
finished_stated words given given_after taken taken_after faults faults_after a _ text some (sink_failed rose wrote) = λ done. absurd cc
finished_stated words given given_after taken taken_after faults faults_after a _ text some (sink_full wrote) = λ done. absurd cc

pub closed_stated : (words : List (List ℕ)) (given given_after : List (List ℕ)) (taken taken_after : List ℕ) (faults faults_after : ℕ) (outcome : Result Answer Halt) (s : Status)
    → IfOk outcome (λ a. IsSomeAnswer words given given_after a.status a.text.items) → Closes outcome taken taken_after faults faults_after s → StatesOutput words given given_after taken taken_after s
closed_stated words given given_after taken taken_after faults faults_after (Ok a) s some ends = finished_stated words given given_after taken taken_after faults faults_after a.status s a.text.items some ends
closed_stated words given given_after taken taken_after faults faults_after (Err SourceFailed) s some ends = λ done. let e = ends.0 in absurd cc
closed_stated words given given_after taken taken_after faults faults_after (Err OutOfMemory) s some ends = λ done. let e = ends.0 in absurd cc

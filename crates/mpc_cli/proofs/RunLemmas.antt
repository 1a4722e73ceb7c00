-- What the top call answers, from the ends of its parts.
use Rattle.std.proofs.Common.{◌≡◌, ℕ, ◌+◌, ◌≤◌, ◌⊎◌, arith, inl, inr, List, ◌++◌, length, refl, sym, ap, subst}
use Rattle.std.specs.Prelude.{Result, Ok, Err, IfOk, IfErr}
use Rattle.mpc_port.specs.Faults.{Rose}
use Rattle.mpc_port.specs.Passing.{Passed, TookFront}
use Rattle.mpc_port.specs.SinkError.{ExplainsSinkError}
use Rattle.mpc_port.specs.declared.output.SinkError.{SinkError}
use Rattle.mpc_port.specs.declared.output.SinkError.TheVariants.{Failed as SinkFailed}
use Rattle.mpc_status.specs.declared.status.Status.{Status}
use Rattle.mpc_status.specs.declared.status.Status.TheVariants.{ReadFault, WriteFault, TooLong, NoMemory}
use Rattle.mpc_cli.specs.Commands.{Reads}
use Rattle.mpc_cli.specs.Answers.{input_limit, IsDue, OneStatus, PassingIsDone, Passage, TookPart, RunAnswers}
use Rattle.mpc_cli.specs.declared.answer.Answer.{Answer}
use Rattle.mpc_cli.specs.declared.inputs.Halt.{Halt}
use Rattle.mpc_cli.specs.declared.inputs.Halt.TheVariants.{SourceFailed, OutOfMemory}
use Rattle.mpc_cli.specs.Outcomes.{HasCome, IsSomeAnswer, ExplainsRunHalt, Closes, Finishes, wrote_all, sink_failed, sink_full}
use Rattle.mpc_cli.proofs.CommandLemmas.{none_reads}
use Rattle.mpc_cli.proofs.EndLemmas.{rank}
use Rattle.mpc_cli.proofs.DueStatus.{due_no_fault, due_usage, due_long, long_due, usage_cause}

-- all is written
whole : OneStatus → PassingIsDone → (words : List (List ℕ)) (p : Passage) (s : Status) (text : List ℕ) → IsSomeAnswer words p.given p.given_after s text → p.taken_after ≡ p.taken ++ text → RunAnswers words p s
whole one passing words p s text some wrote = record {
  input = some.input;
  passed = some.passed;
  most = some.few;
  answered = λ sound. record { whole = some.whole; text = text; answer = some.answer; wrote = wrote };
  usage = λ e. usage_cause words some.input (subst (IsDue words some.input) e some.answer.due);
  usage_first = λ wrong. inl (due_usage one words some.input s some.answer.due wrong);
  too_long = λ e. due_long words some.input (subst (IsDue words some.input) e some.answer.due);
  too_long_first = λ long. inl (one words some.input s TooLong some.answer.due (long_due words some.input (some.reads long) long));
  read_fault = λ e. absurd (due_no_fault words some.input s some.answer.due (ap rank e));
  write_fault = λ e. absurd (due_no_fault words some.input s some.answer.due (ap rank e));
  no_memory = λ e. absurd (due_no_fault words some.input s some.answer.due (ap rank e));
  exact = λ due h quiet. inl (one words some.input s due some.answer.due h);
  complete = λ n quiet. inl (passing words some.input s n some.answer.due);
}

-- a part is written
part : (words : List (List ℕ)) (p : Passage) (s : Status) (text : List ℕ) (some : IsSomeAnswer words p.given p.given_after s text) → TookFront p.taken p.taken_after text → TookPart words p some.input
part words p s text some wrote = record { whole = some.whole; status = s; text = text; answer = some.answer; wrote = wrote }

write_failed : (words : List (List ℕ)) (p : Passage) (s : Status) (text : List ℕ) → IsSomeAnswer words p.given p.given_after s text → Rose p.write_faults p.write_faults_after → TookFront p.taken p.taken_after text → RunAnswers words p WriteFault
write_failed words p s text some rose wrote = record {
  input = some.input;
  passed = some.passed;
  most = some.few;
  answered = λ sound. absurd (sound (inr (inl refl)));
  usage = λ e. absurd cc;
  usage_first = λ wrong. inr (inl refl);
  too_long = λ e. absurd cc;
  too_long_first = λ long. inr (inl refl);
  read_fault = λ e. absurd cc;
  write_fault = λ e. (rose, part words p s text some wrote);
  no_memory = λ e. absurd cc;
  exact = λ due h quiet. absurd (quiet.writes rose);
  complete = λ n quiet. absurd (quiet.writes rose);
}

out_of_memory : (words : List (List ℕ)) (p : Passage) (input : List ℕ) → Passed p.given p.given_after input → length input ≤ input_limit + 1 → (p.taken_after ≡ p.taken) ⊎ TookPart words p input → RunAnswers words p NoMemory
out_of_memory words p input passed most took = record {
  input = input;
  passed = passed;
  most = most;
  answered = λ sound. absurd (sound (inr (inr refl)));
  usage = λ e. absurd cc;
  usage_first = λ wrong. inr (inr refl);
  too_long = λ e. absurd cc;
  too_long_first = λ long. inr (inr refl);
  read_fault = λ e. absurd cc;
  write_fault = λ e. absurd cc;
  no_memory = λ e. took;
  exact = λ due h quiet. inr refl;
  complete = λ n quiet. inr refl;
}

finished : OneStatus → PassingIsDone → (words : List (List ℕ)) (p : Passage) (a s : Status) (text : List ℕ) → IsSomeAnswer words p.given p.given_after a text → Finishes a text p.taken p.taken_after p.write_faults p.write_faults_after s → RunAnswers words p s
finished one passing words p a _ text some (wrote_all wrote) = whole one passing words p a text some wrote
finished one passing words p a _ text some (sink_failed rose wrote) = write_failed words p a text some rose wrote
finished one passing words p a _ text some (sink_full wrote) = out_of_memory words p some.input some.passed some.few (inr (part words p a text some wrote))

-- nothing is written
read_failed : (words : List (List ℕ)) (p : Passage) → Reads words → Rose p.read_faults p.read_faults_after → HasCome input_limit p.given p.given_after → p.taken_after ≡ p.taken → RunAnswers words p ReadFault
read_failed words p run rose come kept = record {
  input = come.bytes;
  passed = come.passed;
  most = omega (arith, come.few);
  answered = λ sound. absurd (sound (inl refl));
  usage = λ e. absurd cc;
  usage_first = λ wrong. absurd (none_reads words wrong run);
  too_long = λ e. absurd cc;
  too_long_first = λ long. absurd (omega (arith, long, come.few));
  read_fault = λ e. (rose, kept);
  write_fault = λ e. absurd cc;
  no_memory = λ e. absurd cc;
  exact = λ due h quiet. absurd (quiet.reads rose);
  complete = λ n quiet. absurd (quiet.reads rose);
}

-- ---- the ends of writing
pub failed_ends : (status : Status) (text bytes taken taken_after : List ℕ) (faults faults_after : ℕ) (e : SinkError) → e ≡ SinkFailed → bytes ≡ text → TookFront taken taken_after bytes → ExplainsSinkError faults faults_after e
    → Finishes status text taken taken_after faults faults_after WriteFault
failed_ends status text bytes taken taken_after faults faults_after e is same took cause = sink_failed (subst (ExplainsSinkError faults faults_after) is cause) (subst (TookFront taken taken_after) same took)

pub full_ends : (status : Status) (text bytes taken taken_after : List ℕ) (faults faults_after : ℕ) → bytes ≡ text → TookFront taken taken_after bytes → Finishes status text taken taken_after faults faults_after NoMemory
full_ends status text bytes taken taken_after faults faults_after same took = sink_full (subst (TookFront taken taken_after) same took)

-- ---- a run by an answer, or by none
pub closed : OneStatus → PassingIsDone → (words : List (List ℕ)) (p : Passage) (outcome : Result Answer Halt) (s : Status) → IfOk outcome (λ a. IsSomeAnswer words p.given p.given_after a.status a.text.items)
    → IfErr outcome (ExplainsRunHalt words p.given p.given_after p.read_faults p.read_faults_after) → Closes outcome p.taken p.taken_after p.write_faults p.write_faults_after s → RunAnswers words p s
closed one passing words p (Ok a) s some halt ends = finished one passing words p a.status s a.text.items some ends
closed one passing words p (Err SourceFailed) s some halt ends = subst (RunAnswers words p) (sym ends.0) (read_failed words p halt.0 halt.1 halt.2 ends.1)
closed one passing words p (Err OutOfMemory) s some halt ends = subst (RunAnswers words p) (sym ends.0) (out_of_memory words p halt.bytes halt.passed halt.few (inl ends.1))

-- what writes nothing closes with its status
pub halt_closes : (h : Halt) (status : Status) (taken : List ℕ) (faults : ℕ) → (h ≡ SourceFailed → status ≡ ReadFault) → (h ≡ OutOfMemory → status ≡ NoMemory) → Closes (Err h) taken taken faults faults status
halt_closes SourceFailed status taken faults source memory = (source refl, refl)
halt_closes OutOfMemory status taken faults source memory = (memory refl, refl)

-- From the answer of a command to that of its words.
use Rattle.std.proofs.Common.{◌≡◌, ◌≢◌, ℕ, ◌+◌, ◌≤◌, List, [], length, Vec, Global, refl, subst, arith, ◌∷◌, ◌++◌, sym, ap, ◌∙◌, append-nil, append_assoc}
use Rattle.std.specs.Prelude.{Result, Ok, Err, IfOk, IfErr}
use Rattle.std.specs.List.{concat}
use Rattle.std.proofs.lemmas.List.Folds.{concat-append}
use Rattle.mpc_port.specs.Passing.{Passed, PassedToEnd}
use Rattle.mpc_status.specs.declared.status.Status.{Status}
use Rattle.mpc_status.specs.declared.status.Status.TheVariants.{Usage, TooLong}
use Rattle.mpc_status.specs.StatusText.{line_of}
use Rattle.mpc_cli.specs.declared.answer.Answer.{Answer}
use Rattle.mpc_cli.specs.declared.inputs.Halt.{Halt}
use Rattle.mpc_cli.specs.declared.inputs.Halt.TheVariants.{SourceFailed, OutOfMemory}
use Rattle.mpc_cli.specs.declared.inputs.Input.{Input}
use Rattle.mpc_cli.specs.declared.inputs.Input.TheVariants.{Whole, TooLong as LongInput}
use Rattle.mpc_cli.specs.declared.commands.Command.{Command}
use Rattle.mpc_cli.specs.Commands.{Names, IsCommand, CommandReads}
use Rattle.mpc_cli.specs.StatedOutputs.{IsStatedOutput}
use Rattle.mpc_cli.specs.Statuses.{DueIsWhatComes}
use Rattle.mpc_cli.specs.Answers.{input_limit, too_long, in_limit, by_command, no_command, IsOutputOf, IsAnswer}
use Rattle.mpc_cli.specs.Outcomes.{IsAnswerTo, IsAnswerFor, HasCome, IsInput, ExplainsHalt, IsSomeAnswer, ExplainsRunHalt, IsSomeAnswerFor}
use Rattle.mpc_cli.proofs.CommandLemmas.{named_reads, none_reads}
use Rattle.mpc_cli.proofs.StatedLemmas.{meaning_of, stated_of}
use Rattle.mpc_cli.proofs.EndLemmas.{line_text, text_weaker, of_refusal}

-- what an answer has, that with memory has too
ok_same : {E F : Type 0} (r : Result Answer E) (s : Result Answer F) (P Q : Answer → Type 0) → IfOk s (λ a. r ≡ Ok a) → IfOk r P → ((a : Answer) → P a → Q a) → IfOk s Q
ok_same {E} r (Ok a) P Q e h f = f a (subst (λ (x : Result Answer E). IfOk x P) e h)
ok_same r (Err x) P Q e h f = tt

-- ---- what came
-- what was read to the end passed
pub whole_input : (c : Command) (given given_after : List (List ℕ)) (bytes : List ℕ) → PassedToEnd given given_after bytes → length bytes ≤ input_limit
    → Passed given given_after bytes × (length bytes ≤ input_limit) × (CommandReads c → PassedToEnd given given_after bytes)
whole_input c given given_after bytes h few = (
  record {
    pieces = h.passed.pieces ++ [] ∷ [];
    came = h.ended ∙ ap (λ l. l ++ [] ∷ []) h.passed.came ∙ append_assoc given h.passed.pieces ([] ∷ []);
    whole = concat-append h.passed.pieces ([] ∷ []) ∙ append-nil (concat h.passed.pieces) ∙ h.passed.whole;
  },
  few,
  λ reads. h,
)

-- ---- of a command
module _ (c : Command) (given given_after : List (List ℕ)) where
  some_whole : DueIsWhatComes → (bytes : List ℕ) (status : Status) (text : List ℕ) → Passed given given_after bytes × (length bytes ≤ input_limit) × (CommandReads c → PassedToEnd given given_after bytes) → IsAnswerTo c bytes status text
      → IsSomeAnswerFor c given given_after status text
  some_whole due bytes status text came a = record {
    input = bytes;
    passed = came.0;
    few = let few = came.1 in omega (arith, few);
    reads = λ long. absurd (let few = came.1 in omega (arith, few, long));
    whole = λ reads few. came.2 reads;
    answer = record { due = in_limit (λ reads. came.1) ((due c bytes status).0 a.due); text_is = a.text_is };
  }

  -- by what was read and answered
  pub some_whole_of : {E : Type 0} → DueIsWhatComes → (read : Input) (input : Vec ℕ Global) → read ≡ Whole input → IsInput c given given_after read → (r : Result Answer E) (answer : Result Answer Halt) → IfOk answer (λ a. r ≡ Ok a)
      → IfOk r (λ a. IsAnswerTo c input.items a.status a.text.items) → IfOk answer (λ a. IsSomeAnswerFor c given given_after a.status a.text.items)
  some_whole_of due read input is came r answer same answers =
      ok_same r answer (λ a. IsAnswerTo c input.items a.status a.text.items) (λ a. IsSomeAnswerFor c given given_after a.status a.text.items) same answers
      (λ a h. some_whole due input.items a.status a.text.items (subst (IsInput c given given_after) is came) h)

  -- of a command whose input is too long
  some_long : (status : Status) (text : List ℕ) → IsInput c given given_after LongInput → status ≡ TooLong → text ≡ line_of TooLong → IsSomeAnswerFor c given given_after status text
  some_long status text h e f = record {
    input = h.1.0;
    passed = h.1.1;
    few = h.1.3;
    reads = λ long. h.0;
    whole = λ reads few. absurd (let long = h.1.2 in omega (arith, few, long));
    answer = record { due = too_long h.0 h.1.2 e; text_is = line_text (IsStatedOutput c h.1.0) TooLong status text (λ d. absurd cc) e f };
  }

  pub some_long_of : (read : Input) → read ≡ LongInput → (r : Result Answer Halt) → IfOk r (λ a. a.status ≡ TooLong) → IfOk r (λ a. a.text.items ≡ line_of TooLong) → IsInput c given given_after read
      → IfOk r (λ a. IsSomeAnswerFor c given given_after a.status a.text.items)
  some_long_of read is r status text came = of_refusal r TooLong (λ a. IsSomeAnswerFor c given given_after a.status a.text.items) status text (λ a e f. some_long a.status a.text.items (subst (IsInput c given given_after) is came) e f)

  -- want of memory behind an input
  input_come : (read : Input) → IsInput c given given_after read → HasCome (input_limit + 1) given given_after
  input_come (Whole bytes) h = record { bytes = bytes.items; passed = h.0; few = let few = h.1 in omega (arith, few) }
  input_come LongInput h = record { bytes = h.1.0; passed = h.1.1; few = h.1.3 }

  pub memory_halt : {T : Type 0} (faults faults_after : ℕ) (read : Input) (r : Result T Halt) → IsInput c given given_after read → r ≢ Err SourceFailed → IfErr r (ExplainsHalt c given given_after faults faults_after)
  memory_halt faults faults_after read (Ok a) h other = tt
  memory_halt faults faults_after read (Err SourceFailed) h other = absurd (other refl)
  memory_halt faults faults_after read (Err OutOfMemory) h other = input_come read h

-- ---- of the words
module _ (words : List (List ℕ)) (c : Command) (named : Names c words) (given given_after : List (List ℕ)) where
  of_words : (input : List ℕ) (status : Status) (text : List ℕ) → IsAnswerFor c input status text → IsAnswer words input status text
  of_words input status text a = record {
    due = by_command c named a.due;
    text_is = text_weaker (IsStatedOutput c input) (IsOutputOf words input) status text (λ t h. record { command = c; named = named; output_is = meaning_of c input t h }) a.text_is;
  }

  pub some_words : (r : Result Answer Halt) → IfOk r (λ a. IsSomeAnswerFor c given given_after a.status a.text.items) → IfOk r (λ a. IsSomeAnswer words given given_after a.status a.text.items)
  some_words (Ok a) h = record {
    input = h.input;
    passed = h.passed;
    few = h.few;
    reads = λ long. record { command = c; named = named; reads = h.reads long };
    whole = λ r. h.whole (named_reads words c named r);
    answer = of_words h.input a.status a.text.items h.answer;
    stated = λ done. record { command = c; named = named; stated = stated_of c h.input a.text.items (h.answer.text_is.output done) };
  }
  some_words (Err e) h = tt

  pub halt_words : {T : Type 0} (faults faults_after : ℕ) (r : Result T Halt) → IfErr r (ExplainsHalt c given given_after faults faults_after) → IfErr r (ExplainsRunHalt words given given_after faults faults_after)
  halt_words faults faults_after (Ok a) h = tt
  halt_words faults faults_after (Err SourceFailed) h = (record { command = c; named = named; reads = h.0 }, h.1, h.2)
  halt_words faults faults_after (Err OutOfMemory) h = h

-- ---- of words that name no command
none_passed : (given : List (List ℕ)) → Passed given given []
none_passed given = record { pieces = []; came = sym (append-nil given); whole = refl }

module _ (words : List (List ℕ)) (none : ¬ IsCommand words) (given : List (List ℕ)) where
  pub some_usage : (r : Result Answer Halt) → IfOk r (λ a. a.status ≡ Usage) → IfOk r (λ a. a.text.items ≡ line_of Usage) → IfOk r (λ a. IsSomeAnswer words given given a.status a.text.items)
  some_usage (Ok a) e f = record {
    input = [];
    passed = none_passed given;
    few = omega arith;
    reads = λ long. absurd (omega (arith, long));
    whole = λ r. absurd (none_reads words none r);
    answer = record { due = no_command none e; text_is = line_text (IsOutputOf words []) Usage a.status a.text.items (λ d. absurd cc) e f };
    stated = λ done. absurd cc;
  }
  some_usage (Err x) e f = tt

  pub halt_usage : {T : Type 0} (faults faults_after : ℕ) (r : Result T Halt) → r ≢ Err SourceFailed → IfErr r (ExplainsRunHalt words given given faults faults_after)
  halt_usage faults faults_after (Ok a) other = tt
  halt_usage faults faults_after (Err SourceFailed) other = absurd (other refl)
  halt_usage faults faults_after (Err OutOfMemory) other = record { bytes = []; passed = none_passed given; few = omega arith }

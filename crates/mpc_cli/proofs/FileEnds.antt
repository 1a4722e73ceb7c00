-- What comes of the file of a controller, and the answers to it.
use Rattle.std.proofs.Common.{◌≡◌, ◌≢◌, ℕ, ◌^◌, ◌<◌, ◌≤◌, List, length, refl, sym, subst, arith, lit<}
use Rattle.std.specs.Prelude.{codes}
use Rattle.mpc_grammar.specs.declared.errors.FileKind.{FileKind}
use Rattle.mpc_grammar.specs.FileGrammar.{FailsAt}
use Rattle.mpc_files.specs.FileOutcomes.{fails, spells, IsFileReading, FileOutcome, accepted, IsFileOutcome, OneFileReading, OneFileOutcome}
use Rattle.mpc_files.specs.FileAnswers.{FileReplies, Converts, IsAccepted}
use Rattle.mpc_theorem.specs.FileOutputs.{AcceptedIsRightFile, RepliedIsOutput, ConvertedIsOutput}
use Rattle.mpc_table.specs.Cut.{head_of, count_lines}
use Rattle.mpc_status.specs.declared.status.Status.{Status}
use Rattle.mpc_status.specs.declared.status.Status.TheVariants.{Done, BadFile}
use Rattle.mpc_status.specs.StatusText.{line_of}
use Rattle.mpc_cli.specs.declared.commands.Command.TheVariants.{OfFile}
use Rattle.mpc_cli.specs.declared.commands.FileCommand.{FileCommand}
use Rattle.mpc_cli.specs.declared.commands.FileCommand.TheVariants.{Check, Reply, Convert, Safe}
use Rattle.mpc_cli.specs.StatedOutputs.{IsStatedOutput}
use Rattle.mpc_cli.specs.Statuses.{file_status, reading_status, safety_status, ComesToFile}
use Rattle.mpc_files.specs.declared.answers.Safety.TheVariants.{Safe as SafeAnswer}
use Rattle.mpc_files.specs.SafetyAnswers.{IsAnswerToFile}
use Rattle.mpc_files.specs.SafetyOutcomes.{SafetyOutcome, safe}
use Rattle.mpc_theorem.specs.SafeFiles.{IsSafetyDue, OneSafetyDue, AnswerIsDue, SafeIsForever}
use Rattle.mpc_cli.specs.Answers.{input_limit, FilePasses}
use Rattle.mpc_cli.specs.Outcomes.{IsAnswerTo}
use Rattle.mpc_cli.proofs.EndLemmas.{one_of, done_text, line_text}
use Rattle.mpc_words.specs.WholeLines.{whole_lines, before_line}

-- ---- one end
pub small : (n : ℕ) → n ≤ input_limit → n < 2 ^ 64
small n h = let l : input_limit < 2 ^ 64 = lit< tt in omega (arith, h, l)

abbrev pub LinesBefore : Type 0
LinesBefore = (word text : List ℕ) → length (before_line word (whole_lines text)) ≤ length text

head_small : LinesBefore → (input : List ℕ) → length input ≤ input_limit → length (head_of input) < 2 ^ 64
head_small lines input l = let shorter = lines (codes "states") input in small (length (head_of input)) (omega (arith, shorter, l))

pub one_file : LinesBefore → OneFileReading → OneFileOutcome → OneSafetyDue → (c : FileCommand) (input : List ℕ) (s t : Status) → length input ≤ input_limit → ComesToFile c input s → ComesToFile c input t → s ≡ t
one_file lines reading outcome safety Check input s t l h k = one_of (IsFileOutcome input) file_status s t (λ a b. outcome input a b (small (length input) l)) h k
one_file lines reading outcome safety Reply input s t l h k = one_of (IsFileReading (head_of input)) reading_status s t (λ a b. reading (head_of input) a b (head_small lines input l)) h k
one_file lines reading outcome safety Convert input s t l h k = one_of (IsFileReading input) reading_status s t (λ a b. reading input a b (small (length input) l)) h k
one_file lines reading outcome safety Safe input s t l h k = one_of (IsSafetyDue input) safety_status s t (λ a b. safety input a b (small (length input) l)) h k

-- where the file passes, Done comes
pub passing_comes : (c : FileCommand) (input : List ℕ) → FilePasses c input → ComesToFile c input Done
passing_comes Check input h = record { outcome = accepted; came = h; status_is = refl }
passing_comes Reply input h = record { outcome = spells h.0; came = h.1; status_is = refl }
passing_comes Convert input h = record { outcome = spells h.0; came = h.1; status_is = refl }
passing_comes Safe input h = record { outcome = safe; came = h; status_is = refl }

-- ---- the answers
pub line_answer : (c : FileCommand) (input : List ℕ) (s status : Status) (text : List ℕ) → ComesToFile c input s → s ≢ Done → status ≡ s → text ≡ line_of s → IsAnswerTo (OfFile c) input status text
line_answer c input s status text due other e f = record { due = subst (ComesToFile c input) (sym e) due; text_is = line_text (IsStatedOutput (OfFile c) input) s status text other e f }

pub done_answer : (c : FileCommand) (input : List ℕ) (status : Status) (text out : List ℕ) → ComesToFile c input Done → status ≡ Done → text ≡ out → IsStatedOutput (OfFile c) input out → IsAnswerTo (OfFile c) input status text
done_answer c input status text out due e f h = record { due = subst (ComesToFile c input) (sym e) due; text_is = done_text (IsStatedOutput (OfFile c) input) status text out e f h }

pub bad_reply : (kind : FileKind) (number : ℕ) (status : Status) (text : List ℕ) → status ≡ BadFile kind number → text ≡ line_of (BadFile kind number) → (input : List ℕ) → FailsAt (head_of input) kind number
    → IsAnswerTo (OfFile Reply) input status text
bad_reply kind number status text e f input h = line_answer Reply input (BadFile kind number) status text (record { outcome = fails kind number; came = h; status_is = refl }) (λ d. absurd cc) e f

pub bad_convert : (kind : FileKind) (number : ℕ) (status : Status) (text : List ℕ) → status ≡ BadFile kind number → text ≡ line_of (BadFile kind number) → (input : List ℕ) → FailsAt input kind number
    → IsAnswerTo (OfFile Convert) input status text
bad_convert kind number status text e f input h = line_answer Convert input (BadFile kind number) status text (record { outcome = fails kind number; came = h; status_is = refl }) (λ d. absurd cc) e f

pub found_answer : (o : FileOutcome) (status : Status) (text : List ℕ) → file_status o ≢ Done → status ≡ file_status o → text ≡ line_of (file_status o) → (input : List ℕ) → IsFileOutcome input o → IsAnswerTo (OfFile Check) input status text
found_answer o status text other e f input h = line_answer Check input (file_status o) status text (record { outcome = o; came = h; status_is = refl }) other e f

pub accepted_answer : AcceptedIsRightFile → (input : List ℕ) (status : Status) (text : List ℕ) → status ≡ Done → text ≡ codes "accepted\n" → length input < 2 ^ 64 → IsAccepted input → IsAnswerTo (OfFile Check) input status text
accepted_answer is input status text e f short h = done_answer Check input status text (codes "accepted\n") (record { outcome = accepted; came = h.file; status_is = refl }) e f (is input short h, refl)

pub reply_answers : RepliedIsOutput → (input : List ℕ) (status : Status) (text out : List ℕ) → status ≡ Done → text ≡ out → length (head_of input) < 2 ^ 64 → FileReplies (head_of input) (count_lines input) out → IsAnswerTo (OfFile Reply) input status text
reply_answers is input status text out e f short h = done_answer Reply input status text out (record { outcome = spells h.parts; came = h.given.spelled; status_is = refl }) e f (is (head_of input) out (count_lines input) short h)

pub convert_answers : ConvertedIsOutput → (input : List ℕ) (status : Status) (text out : List ℕ) → status ≡ Done → text ≡ out → length input < 2 ^ 64 → length out < 2 ^ 64 → Converts input out → IsAnswerTo (OfFile Convert) input status text
convert_answers is input status text out e f short little h = done_answer Convert input status text out (record { outcome = spells h.parts; came = h.spelled; status_is = refl }) e f (is input out short little h)

pub safety_found : (o : SafetyOutcome) (status : Status) (text : List ℕ) → safety_status o ≢ Done → status ≡ safety_status o → text ≡ line_of (safety_status o) → (input : List ℕ) → IsSafetyDue input o → IsAnswerTo (OfFile Safe) input status text
safety_found o status text other e f input h = line_answer Safe input (safety_status o) status text (record { outcome = o; came = h; status_is = refl }) other e f

pub safe_answers : AnswerIsDue → SafeIsForever → (input : List ℕ) (status : Status) (text : List ℕ) → status ≡ Done → text ≡ codes "safe\n" → IsAnswerToFile input SafeAnswer → IsAnswerTo (OfFile Safe) input status text
safe_answers is forever input status text e f h = done_answer Safe input status text (codes "safe\n") (record { outcome = safe; came = is input SafeAnswer h; status_is = refl }) e f ((forever input h, refl), h)

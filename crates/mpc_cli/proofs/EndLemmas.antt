-- The status of an outcome, and what is written at it.
use Rattle.std.proofs.Common.{◌≡◌, ◌≢◌, ℕ, List, sym, ◌∙◌, ap, subst}
use Rattle.std.specs.Prelude.{Result, Ok, Err, IfOk}
use Rattle.mpc_cli.specs.declared.answer.Answer.{Answer}
use Rattle.mpc_status.specs.declared.status.Status.{Status}
use Rattle.mpc_status.specs.declared.status.Status.TheVariants.{Done, Usage, BadPlant, NotDefinite, TooWide, BadFile, Refused, ReadFault, WriteFault, TooLong, NoMemory, Unsafe, WideLater, BadNoise, TooManyPlants}
use Rattle.mpc_status.specs.StatusText.{line_of}
use Rattle.mpc_cli.specs.Ends.{ComesOf, IsTextAt}

-- where one outcome comes, there is one status
pub one_of : {O : Type 0} (comes : O → Type 0) (status_of : O → Status) (s t : Status) → ((a b : O) → comes a → comes b → a ≡ b) → ComesOf comes status_of s → ComesOf comes status_of t → s ≡ t
one_of comes status_of s t one h k = h.status_is ∙ ap status_of (one h.outcome k.outcome h.came k.came) ∙ sym k.status_is

-- ---- the texts
pub done_text : (IsOutput : List ℕ → Type 0) (status : Status) (text out : List ℕ) → status ≡ Done → text ≡ out → IsOutput out → IsTextAt IsOutput status text
done_text IsOutput status text out e f h = record { output = λ done. subst IsOutput (sym f) h; line = λ other. absurd (other e) }

pub line_text : (IsOutput : List ℕ → Type 0) (s status : Status) (text : List ℕ) → s ≢ Done → status ≡ s → text ≡ line_of s → IsTextAt IsOutput status text
line_text IsOutput s status text other e f = record { output = λ done. absurd (other (sym e ∙ done)); line = λ h. f ∙ ap line_of (sym e) }

pub text_weaker : (P Q : List ℕ → Type 0) (status : Status) (text : List ℕ) → ((t : List ℕ) → P t → Q t) → IsTextAt P status text → IsTextAt Q status text
text_weaker P Q status text f h = record { output = λ e. f text (h.output e); line = h.line }

-- ---- what a refusal and an output give
pub of_refusal : {E : Type 0} (r : Result Answer E) (s : Status) (P : Answer → Type 0) → IfOk r (λ a. a.status ≡ s) → IfOk r (λ a. a.text.items ≡ line_of s) → ((a : Answer) → a.status ≡ s → a.text.items ≡ line_of s → P a) → IfOk r P
of_refusal (Ok a) s P e f h = h a e f
of_refusal (Err x) s P e f h = tt

pub of_status : {E : Type 0} (r : Result Answer E) (s : Status) (text : List ℕ) (P : Answer → Type 0) → IfOk r (λ a. a.status ≡ s) → IfOk r (λ a. a.text.items ≡ text) → ((a : Answer) → a.status ≡ s → a.text.items ≡ text → P a) → IfOk r P
of_status (Ok a) s text P e f h = h a e f
of_status (Err x) s text P e f h = tt

pub ok_weaker : {E : Type 0} (r : Result Answer E) (P Q : Answer → Type 0) → ((a : Answer) → P a → Q a) → IfOk r P → IfOk r Q
ok_weaker (Ok a) P Q f h = f a h
ok_weaker (Err x) P Q f h = tt

-- ---- the statuses that no command has have a rank above 0
abbrev pub rank : Status → ℕ
rank Done = 0
rank Usage = 1
rank (BadPlant kind path) = 0
rank (NotDefinite pivot) = 0
rank (TooWide place) = 0
rank (BadFile kind number) = 0
rank (Refused spot) = 0
rank ReadFault = 3
rank WriteFault = 3
rank TooLong = 2
rank NoMemory = 3
rank (Unsafe one pairs) = 0
rank (WideLater place) = 0
rank BadNoise = 0
rank TooManyPlants = 0

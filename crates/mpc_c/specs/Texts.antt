-- What a call with a text answers: the exit code of the command's status, and its text at the front of the caller's room.
use Rattle.std.specs.Prelude.{◌≡◌, ◌≢◌, ℕ, ◌<◌, ◌≤◌, ◌⊎◌, List, length, take, drop, Result, Ok, Err}
use Rattle.std.specs.Global.{Vec}
use Rattle.mpc_status.specs.declared.status.Status.{Status}
use Rattle.mpc_status.specs.declared.status.Status.TheVariants.{Done, NoMemory}
use Rattle.mpc_status.specs.StatusText.{line_of, code_of}
use Rattle.mpc_cli.specs.declared.commands.Command.{Command}
use Rattle.mpc_cli.specs.Answers.{IsDueFor}
use Rattle.mpc_cli.specs.Outcomes.{IsAnswerFor}
use Rattle.mpc_c.specs.declared.codes.TheConstants.{NO_MEMORY, TOO_SMALL}

-- an output, or a refusal with its line; nothing is said of want of memory
abbrev pub OutcomeOf : (Status → List ℕ → Type 0) → Result (Vec ℕ) Status → Type 0
OutcomeOf Answers (Ok text) = Answers Done text.items
OutcomeOf Answers (Err status) = status ≢ NoMemory → Answers status (line_of status)

-- the command answers the input with a status of this exit code and this text
pub record IsTextOf (c : Command) (input : List ℕ) (code : ℕ) (text : List ℕ) : Type 0 where
  pub status : Status
  pub answer : IsAnswerFor c input status text
  pub code_is : code ≡ code_of status
  pub in_memory : status ≢ NoMemory

-- the text stands at the front of the room
pub record IsTold (c : Command) (input : List ℕ) (code size : ℕ) (room : List ℕ) : Type 0 where
  pub text_is : IsTextOf c input code (take size room)
  pub inside : size ≤ length room

-- the text has so many bytes, more than the room
pub record IsTooLong (c : Command) (input : List ℕ) (size : ℕ) (room : List ℕ) : Type 0 where
  pub code : ℕ
  pub text : List ℕ
  pub text_is : IsTextOf c input code text
  pub size_is : size ≡ length text
  pub larger : length room < size

-- what a call answers for a command and an input, with the room before and after
pub record CallAnswers (c : Command) (input : List ℕ) (code size : ℕ) (old new : List ℕ) : Type 0 where
  -- the code is that of a status which the command answers the input with, and its text is told
  pub told : code ≢ NO_MEMORY → code ≢ TOO_SMALL → IsTold c input code size new
  -- there is no room for the text, whose size is told
  pub too_small : code ≡ TOO_SMALL → IsTooLong c input size old × (new ≡ old)
  pub no_memory : code ≡ NO_MEMORY → (size ≡ 0) × (new ≡ old)
  -- behind the text nothing is written
  pub behind : drop size new ≡ drop size old
  -- each cause brings its code, unless there is no room or memory runs out
  pub exact : (due : Status) → IsDueFor c input due → (code ≡ code_of due) ⊎ ((code ≡ TOO_SMALL) ⊎ (code ≡ NO_MEMORY))

-- What comes of bytes that are to be the file of a safe controller: they fail at a line, or they spell a controller in which the checker finds
-- something, or of which a step is found, or which is safe.
use Rattle.std.specs.Prelude.{◌≡◌, ℕ, ◌^◌, ◌<◌, List, length}
use Rattle.mpc_controller.specs.Parts.{Parts}
use Rattle.mpc_grammar.specs.declared.errors.FileKind.{FileKind}
use Rattle.mpc_grammar.specs.FileGrammar.{FailsAt, IsSpelled}
use Rattle.mpc_check.specs.Findings.{Finding, refused, too_wide, not_definite}
use Rattle.mpc_check.specs.Acceptance.{Accepts, IsFound}
use Rattle.mpc_recur.specs.Findings.{Finding as Step, reached, too_wide as too_wide_step}
use Rattle.mpc_recur.specs.Targets.{AllRuledOut, IsFound as IsStepFound}
use Rattle.mpc_files.specs.declared.answers.Safety.{Safety}
use Rattle.mpc_files.specs.declared.answers.Safety.TheVariants.{Safe, Refused, Unsafe}
use Rattle.mpc_files.specs.SafetyAnswers.{IsAnswerToFile, IsFileCause}
use Rattle.mpc_files.specs.declared.answers.SafetyError.{SafetyError}
use Rattle.mpc_files.specs.declared.answers.SafetyError.TheVariants.{BadFile, NotDefinite, TooWide, WideLater, NoMemory}

pub data SafetyOutcome : Type 0 where
  bad_file : FileKind → ℕ → SafetyOutcome
  finds : Finding → SafetyOutcome
  steps : Step → SafetyOutcome
  safe : SafetyOutcome

-- the checker finds this
pub record FindsInFile (bytes : List ℕ) (finding : Finding) : Type 0 where
  pub parts : Parts
  pub spelled : IsSpelled bytes parts
  pub found : IsFound parts finding

-- it accepts, and this is found of the first target that isn't ruled out
pub record StepsInFile (bytes : List ℕ) (step : Step) : Type 0 where
  pub parts : Parts
  pub spelled : IsSpelled bytes parts
  pub accepts : Accepts parts
  pub found : IsStepFound parts step

-- it accepts, and each target is ruled out
pub record SafeFile (bytes : List ℕ) : Type 0 where
  pub parts : Parts
  pub spelled : IsSpelled bytes parts
  pub accepts : Accepts parts
  pub ruled_out : AllRuledOut parts

abbrev pub IsSafetyOutcome : List ℕ → SafetyOutcome → Type 0
IsSafetyOutcome bytes (bad_file kind number) = FailsAt bytes kind number
IsSafetyOutcome bytes (finds finding) = FindsInFile bytes finding
IsSafetyOutcome bytes (steps step) = StepsInFile bytes step
IsSafetyOutcome bytes safe = SafeFile bytes

-- ---- which outcome an answer states
abbrev pub outcome_of : Safety → SafetyOutcome
outcome_of Safe = safe
outcome_of (Refused spot) = finds (refused spot)
outcome_of (Unsafe one pairs) = steps (reached one pairs)

-- an error that isn't want of memory states an outcome
abbrev pub IsCausedBy : List ℕ → SafetyError → Type 0
IsCausedBy bytes (BadFile kind number) = IsSafetyOutcome bytes (bad_file kind number)
IsCausedBy bytes (NotDefinite pivot) = IsSafetyOutcome bytes (finds (not_definite pivot))
IsCausedBy bytes (TooWide place) = IsSafetyOutcome bytes (finds (too_wide place))
IsCausedBy bytes (WideLater one) = IsSafetyOutcome bytes (steps (too_wide_step one))
IsCausedBy bytes NoMemory = Unit {0}

-- ---- laws
-- of bytes of fewer than 2^64, as slices are, at most one outcome is due
abbrev pub OneSafetyOutcome : Type 0
OneSafetyOutcome = (bytes : List ℕ) (one other : SafetyOutcome) → length bytes < 2 ^ 64 → IsSafetyOutcome bytes one → IsSafetyOutcome bytes other → one ≡ other

abbrev pub AnswerIsOutcome : Type 0
AnswerIsOutcome = (bytes : List ℕ) (answer : Safety) → IsAnswerToFile bytes answer → IsSafetyOutcome bytes (outcome_of answer)

abbrev pub CauseIsOutcome : Type 0
CauseIsOutcome = (bytes : List ℕ) (error : SafetyError) → IsFileCause bytes error → IsCausedBy bytes error

-- What the test of a controller's file answers.
use Rattle.std.specs.Prelude.{ℕ, List}
use Rattle.mpc_exact.specs.Rational.{ℚ}
use Rattle.mpc_controller.specs.Parts.{Parts}
use Rattle.mpc_controller.specs.Bounds.{IsController}
use Rattle.mpc_grammar.specs.declared.errors.FileError.{FileError}
use Rattle.mpc_grammar.specs.declared.errors.FileError.TheVariants.{Bad, NoMemory as NoFileMemory}
use Rattle.mpc_grammar.specs.FileGrammar.{IsSpelled, FailsAt}
use Rattle.mpc_check.specs.Findings.{refused, too_wide, not_definite}
use Rattle.mpc_check.specs.Acceptance.{Accepts, IsFound}
use Rattle.mpc_recur.specs.declared.answers.Next.{Next}
use Rattle.mpc_recur.specs.Findings.{too_wide as too_wide_later}
use Rattle.mpc_recur.specs.Targets.{IsFound as IsFoundLater}
use Rattle.mpc_recur.specs.Outcomes.{IsSafeOutcome, IsUnsafeOutcome}
use Rattle.mpc_files.specs.declared.answers.Safety.{Safety}
use Rattle.mpc_files.specs.declared.answers.Safety.TheVariants.{Safe, Refused, Unsafe}
use Rattle.mpc_files.specs.declared.answers.SafetyError.{SafetyError}
use Rattle.mpc_files.specs.declared.answers.SafetyError.TheVariants.{BadFile, NotDefinite, TooWide, WideLater, NoMemory}
use Rattle.mpc_files.specs.RightForever.{StaysRight}

-- ---- of a controller
-- the checker accepts it, it is safe, and so it replies rightly forever
pub record IsSafeController (parts : Parts) : Type 0 where
  pub accepts : Accepts parts
  pub safe : IsSafeOutcome parts
  pub forever : StaysRight parts

-- the checker accepts it, and it leads to the target from the pair point
pub record IsUnsafeController (parts : Parts) (one : Next) (pairs : List (ℚ × ℚ)) : Type 0 where
  pub accepts : Accepts parts
  pub leads : IsUnsafeOutcome parts one pairs

-- the checker accepts it, and the first target that isn't ruled out is too wide
pub record IsWideController (parts : Parts) (one : Next) : Type 0 where
  pub accepts : Accepts parts
  pub first : IsFoundLater parts (too_wide_later one)

abbrev pub IsSafety : Parts → Safety → Type 0
IsSafety parts Safe = IsSafeController parts
IsSafety parts (Refused spot) = IsFound parts (refused spot)
IsSafety parts (Unsafe one pairs) = IsUnsafeController parts one pairs

abbrev pub IsSafetyCause : Parts → SafetyError → Type 0
IsSafetyCause parts (BadFile kind number) = ⊥
IsSafetyCause parts (NotDefinite pivot) = IsFound parts (not_definite pivot)
IsSafetyCause parts (TooWide place) = IsFound parts (too_wide place)
IsSafetyCause parts (WideLater one) = IsWideController parts one
IsSafetyCause parts NoMemory = Unit {0}

-- ---- of a file
-- the bytes spell a controller of which this holds
pub record SpellsOne (bytes : List ℕ) (holds : Parts → Type 0) : Type 0 where
  pub parts : Parts
  pub spelled : IsSpelled bytes parts
  pub of_shape : IsController parts.plant parts.laws parts.tree
  pub is : holds parts

abbrev pub IsAnswerToFile : List ℕ → Safety → Type 0
IsAnswerToFile bytes answer = SpellsOne bytes (λ parts. IsSafety parts answer)

-- why nothing is answered; nothing is said of want of memory
abbrev pub IsFileCause : List ℕ → SafetyError → Type 0
IsFileCause bytes (BadFile kind number) = FailsAt bytes kind number
IsFileCause bytes (NotDefinite pivot) = SpellsOne bytes (λ parts. IsSafetyCause parts (NotDefinite pivot))
IsFileCause bytes (TooWide place) = SpellsOne bytes (λ parts. IsSafetyCause parts (TooWide place))
IsFileCause bytes (WideLater one) = SpellsOne bytes (λ parts. IsSafetyCause parts (WideLater one))
IsFileCause bytes NoMemory = Unit {0}

-- what the error of a reader becomes
abbrev pub of_reader : FileError → SafetyError
of_reader (Bad kind number) = BadFile kind number
of_reader NoFileMemory = NoMemory

-- What a controller's file is answered with.
use Rattle.std.specs.Prelude.{ℕ, List}
use Rattle.mpc_exact.specs.Rational.{ℚ}
use Rattle.mpc_plant.specs.Reply.{Reply, IsRight}
use Rattle.mpc_plant.specs.Trajectory.{IsInBox}
use Rattle.mpc_controller.specs.Parts.{Parts}
use Rattle.mpc_controller.specs.Bounds.{IsController}
use Rattle.mpc_controller.specs.Replies.{RepliesAt}
use Rattle.mpc_grammar.specs.declared.errors.FileError.{FileError}
use Rattle.mpc_grammar.specs.declared.errors.FileError.TheVariants.{Bad, NoMemory as NoFileMemory}
use Rattle.mpc_grammar.specs.declared.versions.Version.TheVariants.{Three}
use Rattle.mpc_grammar.specs.FileGrammar.{Spells, IsSpelled}
use Rattle.mpc_table.specs.ReplyLines.{AreRepliesOf}
use Rattle.mpc_check.specs.declared.answers.Answer.{Answer}
use Rattle.mpc_check.specs.declared.answers.Answer.TheVariants.{Accepted, Refused}
use Rattle.mpc_condense.specs.declared.convex.ProgramError.{ProgramError as CheckError}
use Rattle.mpc_condense.specs.declared.convex.ProgramError.TheVariants.{TooWide as Wide, NotDefinite as NotDefiniteCost, NoMemory as NoCheckMemory}
use Rattle.mpc_check.specs.Findings.{refused, too_wide, not_definite}
use Rattle.mpc_files.specs.declared.errors.CheckFileError.{CheckFileError}
use Rattle.mpc_files.specs.declared.errors.CheckFileError.TheVariants.{BadFile, NotDefinite, TooWide, NoMemory}
use Rattle.mpc_files.specs.FileOutcomes.{bad_file, finds, AcceptsFile, IsFileOutcome}

-- ---- replies and another text
-- the bytes spell a controller, whether anybody has checked it or not
pub record HasController (bytes : List ℕ) (parts : Parts) : Type 0 where
  pub spelled : IsSpelled bytes parts
  pub of_shape : IsController parts.plant parts.laws parts.tree

-- and the text is one reply line of it for each of these lines
pub record FileReplies (bytes : List ℕ) (lines : List (List ℕ)) (text : List ℕ) : Type 0 where
  pub parts : Parts
  pub given : HasController bytes parts
  pub replies : AreRepliesOf parts lines text

-- the text spells in version 3 the controller that the bytes spell
pub record Converts (bytes text : List ℕ) : Type 0 where
  pub parts : Parts
  pub spelled : IsSpelled bytes parts
  pub written : Spells text Three parts

-- ---- the answer of a check
-- at every point of the plant's box, also between the states of the grid, the tree replies, and what it replies is right
pub record RepliesRightly (parts : Parts) : Type 0 where
  pub replies : (t : List ℚ) → IsInBox parts.plant t → (reply : Reply) × RepliesAt parts t reply
  pub right : (t : List ℚ) (reply : Reply) → IsInBox parts.plant t → RepliesAt parts t reply → IsRight parts.plant t reply

-- the file is accepted, and what it spells replies rightly
pub record IsAccepted (bytes : List ℕ) : Type 0 where
  pub file : AcceptsFile bytes
  pub of_shape : IsController file.parts.plant file.parts.laws file.parts.tree
  pub rightly : RepliesRightly file.parts

abbrev pub IsAnswerToFile : List ℕ → Answer → Type 0
IsAnswerToFile bytes Accepted = IsAccepted bytes
IsAnswerToFile bytes (Refused spot) = IsFileOutcome bytes (finds (refused spot))

-- why nothing is answered; nothing is said of want of memory
abbrev pub IsFileCause : List ℕ → CheckFileError → Type 0
IsFileCause bytes (BadFile kind number) = IsFileOutcome bytes (bad_file kind number)
IsFileCause bytes (NotDefinite pivot) = IsFileOutcome bytes (finds (not_definite pivot))
IsFileCause bytes (TooWide place) = IsFileOutcome bytes (finds (too_wide place))
IsFileCause bytes NoMemory = Unit {0}

-- what the error of a reader and that of a checker become
abbrev pub of_reader : FileError → CheckFileError
of_reader (Bad kind number) = BadFile kind number
of_reader NoFileMemory = NoMemory

abbrev pub of_checker : CheckError → CheckFileError
of_checker (Wide place) = TooWide place
of_checker (NotDefiniteCost pivot) = NotDefinite pivot
of_checker NoCheckMemory = NoMemory

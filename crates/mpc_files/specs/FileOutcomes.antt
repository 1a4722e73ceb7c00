-- What comes of bytes that are to be the file of a controller: they fail at a line, or they spell a controller, in which something is found
-- where it is checked, or which is accepted.
use Rattle.std.specs.Prelude.{◌≡◌, ℕ, ◌^◌, ◌<◌, List, length}
use Rattle.mpc_controller.specs.Parts.{Parts}
use Rattle.mpc_grammar.specs.declared.errors.FileKind.{FileKind}
use Rattle.mpc_grammar.specs.FileGrammar.{FailsAt, IsSpelled}
use Rattle.mpc_check.specs.Findings.{Finding}
use Rattle.mpc_check.specs.Acceptance.{Accepts, IsFound}

-- ---- of a file that is read
pub data FileReading : Type 0 where
  fails : FileKind → ℕ → FileReading
  spells : Parts → FileReading

-- the line with this number, from 1, is the first that fails, and why, or the bytes spell these parts
abbrev pub IsFileReading : List ℕ → FileReading → Type 0
IsFileReading bytes (fails kind number) = FailsAt bytes kind number
IsFileReading bytes (spells parts) = IsSpelled bytes parts

-- ---- of a file that is checked too
pub data FileOutcome : Type 0 where
  bad_file : FileKind → ℕ → FileOutcome
  finds : Finding → FileOutcome
  accepted : FileOutcome

-- the first condition that isn't met by what the bytes spell gives the finding
pub record FindsInFile (bytes : List ℕ) (finding : Finding) : Type 0 where
  pub parts : Parts
  pub spelled : IsSpelled bytes parts
  pub found : IsFound parts finding

-- what the bytes spell meets all conditions
pub record AcceptsFile (bytes : List ℕ) : Type 0 where
  pub parts : Parts
  pub spelled : IsSpelled bytes parts
  pub accepts : Accepts parts

abbrev pub IsFileOutcome : List ℕ → FileOutcome → Type 0
IsFileOutcome bytes (bad_file kind number) = FailsAt bytes kind number
IsFileOutcome bytes (finds finding) = FindsInFile bytes finding
IsFileOutcome bytes accepted = AcceptsFile bytes

-- ---- theorems on bytes of fewer than 2^64, as slices are
-- they fail at one line for one reason, or spell one controller
abbrev pub OneFileReading : Type 0
OneFileReading = (bytes : List ℕ) (one other : FileReading) → length bytes < 2 ^ 64 → IsFileReading bytes one → IsFileReading bytes other → one ≡ other

-- and at most one outcome is theirs: a line that fails, one finding, or that they are accepted
abbrev pub OneFileOutcome : Type 0
OneFileOutcome = (bytes : List ℕ) (one other : FileOutcome) → length bytes < 2 ^ 64 → IsFileOutcome bytes one → IsFileOutcome bytes other → one ≡ other

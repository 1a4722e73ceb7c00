-- What holds of every text. Where a law speaks of texts of fewer than 2^64 bytes, as slices are, it is because a number is printed with 64 digits
-- at most: below 10^64 splits the position of a row is told by its digits.
use Rattle.std.specs.Prelude.{◌≡◌, ℕ, ◌^◌, ◌<◌, List, [], ◌++◌, length}
use Rattle.mpc_controller.specs.Parts.{Parts}
use Rattle.mpc_grammar.specs.declared.errors.FileKind.{FileKind}
use Rattle.mpc_grammar.specs.declared.versions.Version.{Version}
use Rattle.mpc_grammar.specs.declared.versions.Version.TheVariants.{Three}
use Rattle.mpc_grammar.specs.FileGrammar.{Spells, FailsAt}
use Rattle.mpc_grammar.specs.Statable.{CanState}

-- it is a text of one version
abbrev pub OneVersion : Type 0
OneVersion = (bytes : List ℕ) (version other : Version) (x y : Parts) → length bytes < 2 ^ 64 → Spells bytes version x → Spells bytes other y → version ≡ other

-- it spells one controller
abbrev pub OneController : Type 0
OneController = (bytes : List ℕ) (version other : Version) (x y : Parts) → length bytes < 2 ^ 64 → Spells bytes version x → Spells bytes other y → x ≡ y

-- where it spells a controller, it fails at no line
abbrev pub SpelledNeverFails : Type 0
SpelledNeverFails = (bytes : List ℕ) (version : Version) (x : Parts) (kind : FileKind) (number : ℕ) → length bytes < 2 ^ 64 → Spells bytes version x → ¬ FailsAt bytes kind number

-- it fails at one line
abbrev pub OneLine : Type 0
OneLine = (bytes : List ℕ) (kind other : FileKind) (number place : ℕ) → length bytes < 2 ^ 64 → FailsAt bytes kind number → FailsAt bytes other place → number ≡ place

-- and for one reason
abbrev pub OneReason : Type 0
OneReason = (bytes : List ℕ) (kind other : FileKind) (number place : ℕ) → length bytes < 2 ^ 64 → FailsAt bytes kind number → FailsAt bytes other place → kind ≡ other

-- no bytes behind the text of a controller make another's
abbrev pub NoPrefix : Type 0
NoPrefix = (bytes more : List ℕ) (version other : Version) (x y : Parts) → length (bytes ++ more) < 2 ^ 64 → Spells bytes version x → Spells (bytes ++ more) other y → more ≡ []

-- a version has a text for each controller that it can state: in version 3, whose line of planes has a number of 18 digits, where its nodes are
-- fewer than 10^18, as those in a memory are
abbrev pub EachText : Type 0
EachText = (version : Version) (x : Parts) → (version ≡ Three → length x.tree < 10 ^ 18) → CanState version x → (bytes : List ℕ) × Spells bytes version x

-- and for no other
abbrev pub StatedCanBe : Type 0
StatedCanBe = (bytes : List ℕ) (version : Version) (x : Parts) → length bytes < 2 ^ 64 → Spells bytes version x → CanState version x

-- a version has one text for a controller
abbrev pub OneText : Type 0
OneText = (bytes others : List ℕ) (version : Version) (x : Parts) → Spells bytes version x → Spells others version x → bytes ≡ others

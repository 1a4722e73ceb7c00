-- What holds of the texts that come of bytes of fewer than 2^64, as slices are.
use Rattle.std.specs.Prelude.{◌≡◌, ℕ, ◌^◌, ◌<◌, List, length}
use Rattle.mpc_controller.specs.Parts.{Parts}
use Rattle.mpc_grammar.specs.declared.versions.Version.TheVariants.{Three}
use Rattle.mpc_grammar.specs.FileGrammar.{Spells}
use Rattle.mpc_files.specs.FileAnswers.{FileReplies, Converts}

-- a file has one text of replies to given lines
abbrev pub OneReplyText : Type 0
OneReplyText = (bytes : List ℕ) (lines : List (List ℕ)) (text other : List ℕ) → length bytes < 2 ^ 64 → FileReplies bytes lines text → FileReplies bytes lines other → text ≡ other

-- and one text in version 3
abbrev pub OneConversion : Type 0
OneConversion = (bytes text other : List ℕ) → length bytes < 2 ^ 64 → Converts bytes text → Converts bytes other → text ≡ other

-- which is its own where it is of version 3
abbrev pub ThreeIsKept : Type 0
ThreeIsKept = (bytes text : List ℕ) (parts : Parts) → length bytes < 2 ^ 64 → Spells bytes Three parts → Converts bytes text → text ≡ bytes

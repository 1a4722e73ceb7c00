-- What holds of every text of a controller.
use Rattle.std.specs.Prelude.{◌≡◌, ℕ, ◌^◌, ◌<◌, List, length}
use Rattle.mpc_controller.specs.Parts.{Parts}
use Rattle.mpc_grammar.specs.declared.versions.Version.{Version}
use Rattle.mpc_grammar.specs.declared.versions.Version.TheVariants.{Three}
use Rattle.mpc_grammar.specs.FileGrammar.{Spells}
use Rattle.mpc_theorem.specs.ControllerFile.{IsControllerFile}

-- a text of fewer than 2^64 bytes, as each in a memory, that spells a controller in a version is the file of that controller
abbrev pub SpelledIsFile : Type 0
SpelledIsFile = (text : List ℕ) (version : Version) (parts : Parts) → length text < 2 ^ 64 → Spells text version parts → IsControllerFile version parts text

-- and each file of a controller spells it: in version 3, where it has fewer than 10^18 nodes
abbrev pub FileIsSpelled : Type 0
FileIsSpelled = (text : List ℕ) (version : Version) (parts : Parts) → (version ≡ Three → length parts.tree < 10 ^ 18) → IsControllerFile version parts text → Spells text version parts

-- Whether bytes are the file of a controller, and its text in version 3.
use Rattle.std.specs.Prelude.{◌≡◌, ℕ, List, length}
use Rattle.mpc_controller.specs.Parts.{Parts}
use Rattle.mpc_grammar.specs.declared.versions.Version.TheVariants.{Three}
use Rattle.mpc_grammar.specs.FileGrammar.{Spells, IsSpelled}

-- the bytes spell a controller in one of the three versions
abbrev pub IsFile : List ℕ → Type 0
IsFile bytes = (parts : Parts) × IsSpelled bytes parts

-- the text spells in version 3 the controller that the bytes spell
pub record IsConverted (bytes text : List ℕ) : Type 0 where
  pub parts : Parts
  pub spelled : IsSpelled bytes parts
  pub written : Spells text Three parts

-- such a text has so many bytes
pub record IsTextOfSize (bytes : List ℕ) (size : ℕ) : Type 0 where
  pub text : List ℕ
  pub converted : IsConverted bytes text
  pub long : length text ≡ size

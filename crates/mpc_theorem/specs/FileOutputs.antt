-- What is written of a plant's controller, and of a controller's file.
use Rattle.std.specs.Prelude.{◌≡◌, ℕ, ◌^◌, ◌<◌, List, length}
use Rattle.mpc_plant.specs.declared.plants.Plant.{Plant}
use Rattle.mpc_rows.specs.declared.programs.Qp.{Qp}
use Rattle.mpc_rows.specs.Candidates.{IsTable}
use Rattle.mpc_condense.specs.Condensed.{IsCondensed}
use Rattle.mpc_tree.specs.Trees.{whole_box}
use Rattle.mpc_tree.specs.Certified.{IsOwnTree}
use Rattle.mpc_controller.specs.Parts.{Parts}
use Rattle.mpc_grammar.specs.declared.versions.Version.{Version}
use Rattle.mpc_grammar.specs.declared.versions.Version.TheVariants.{Three}
use Rattle.mpc_grammar.specs.FileGrammar.{Spells}
use Rattle.mpc_files.specs.FileAnswers.{RepliesRightly, FileReplies, Converts, IsAccepted}
use Rattle.mpc_synthesis.specs.Controllers.{IsController}
use Rattle.mpc_table.specs.ReplyLines.{AreRepliesOf}
use Rattle.mpc_theorem.specs.PlantFile.{IsPlantText}
use Rattle.mpc_theorem.specs.ControllerFile.{IsControllerFile}

-- The output of `compile`: the input is the file of a plant, and the text is the file, in version 3, of a controller of that plant, which replies at
-- every point of the box, whole or not, and rightly.
pub record IsCompiled (input output : List ℕ) : Type 0 where
  pub parts : Parts
  pub read : IsPlantText input parts.plant
  pub file : IsControllerFile Three parts output
  pub rightly : RepliesRightly parts

-- Which file it is: that of the plant itself, the table of its program's laws, and the table's own search tree.
pub record IsTheFile (input output : List ℕ) : Type 0 where
  pub qp : Qp
  pub parts : Parts
  pub read : IsPlantText input parts.plant
  pub condensed : IsCondensed qp parts.plant
  pub table : IsTable qp parts.laws
  pub tree : IsOwnTree qp parts.laws whole_box parts.tree
  pub file : IsControllerFile Three parts output

-- What is accepted by `check`: the controller in the file, of any version, replies at every point of its plant's box, whole or not, and rightly,
-- whoever wrote the file.
pub record IsRightFile (input : List ℕ) : Type 0 where
  pub version : Version
  pub parts : Parts
  pub file : IsControllerFile version parts input
  pub rightly : RepliesRightly parts

-- The output of `reply`: one reply line of the controller in the file for each of these lines, right or not.
pub record AreFileReplies (input : List ℕ) (lines : List (List ℕ)) (output : List ℕ) : Type 0 where
  pub version : Version
  pub parts : Parts
  pub file : IsControllerFile version parts input
  pub replies : AreRepliesOf parts lines output

-- The output of `convert`: the file in version 3 of the controller in the file, right or not.
pub record IsConverted (input output : List ℕ) : Type 0 where
  pub version : Version
  pub parts : Parts
  pub file : IsControllerFile version parts input
  pub converted : IsControllerFile Three parts output

-- ---- what is written by the library is this, for files of fewer than 2^64 bytes, as each in a memory
abbrev pub CompiledIsOutput : Type 0
CompiledIsOutput = (input output : List ℕ) (plant : Plant) (qp : Qp) (parts : Parts) → length output < 2 ^ 64 → IsPlantText input plant → IsController plant qp parts → Spells output Three parts → IsCompiled input output × IsTheFile input output

-- there is one
abbrev pub OneFile : Type 0
OneFile = (input one other : List ℕ) → IsTheFile input one → IsTheFile input other → one ≡ other

-- where the plant has a controller, which fits and the checker accepts, it is the file of that one, and spells it (of fewer than 10^18 nodes)
abbrev pub OfItsController : Type 0
OfItsController = (input output : List ℕ) (plant : Plant) (qp : Qp) (parts : Parts) → IsTheFile input output → IsPlantText input plant → IsController plant qp parts → IsControllerFile Three parts output × (length parts.tree < 10 ^ 18 → Spells output Three parts)

abbrev pub AcceptedIsRightFile : Type 0
AcceptedIsRightFile = (input : List ℕ) → length input < 2 ^ 64 → IsAccepted input → IsRightFile input

abbrev pub RepliedIsOutput : Type 0
RepliedIsOutput = (input output : List ℕ) (lines : List (List ℕ)) → length input < 2 ^ 64 → FileReplies input lines output → AreFileReplies input lines output

abbrev pub ConvertedIsOutput : Type 0
ConvertedIsOutput = (input output : List ℕ) → length input < 2 ^ 64 → length output < 2 ^ 64 → Converts input output → IsConverted input output

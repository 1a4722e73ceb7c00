-- Which controllers a version of the text can state: those whose numbers fit, whose rows are few enough, and whose drift and targets the
-- version tells of.
use Rattle.std.specs.Prelude.{◌≤◌, ◌++◌, All}
use Rattle.mpc_plant.specs.declared.plants.Plant.{Plant}
use Rattle.mpc_rows.specs.declared.laws.Law.{Law}
use Rattle.mpc_rows.specs.declared.trees.Node.{Node}
use Rattle.mpc_rows.specs.declared.trees.Node.TheVariants.{Split, Law as LawLeaf, NoMove}
use Rattle.mpc_controller.specs.Parts.{Parts, row_count}
use Rattle.mpc_controller.specs.Bounds.{IsController}
use Rattle.mpc_grammar.specs.Versions.{greatest_rows}
use Rattle.mpc_grammar.specs.PlantGrammar.{AllFit, MayHave}
use Rattle.mpc_grammar.specs.LawGrammar.{unknowns}
use Rattle.mpc_grammar.specs.WrittenFits.{PlantFits, CertFits}
use Rattle.mpc_grammar.specs.declared.versions.Version.{Version}

-- the plant's numbers fit, and the version tells of its rows and of its drift and targets
pub record CanStatePlant (version : Version) (plant : Plant) : Type 0 where
  pub fits : PlantFits plant
  pub rows_few : row_count plant ≤ greatest_rows version (unknowns plant)
  pub offsets : MayHave version plant.drift (plant.xgoal ++ plant.ugoal)

pub record LawNumbersFit (law : Law) : Type 0 where
  pub moves : All AllFit law.moves.rows
  pub mults : All AllFit law.mults.rows

abbrev pub NodeNumbersFit : Node → Type 0
NodeNumbersFit (Split row) = Unit {0}
NodeNumbersFit (LawLeaf law certs) = All CertFits certs
NodeNumbersFit (NoMove cert) = CertFits cert

pub record CanState (version : Version) (parts : Parts) : Type 0 where
  pub controller : IsController parts.plant parts.laws parts.tree
  pub plant : CanStatePlant version parts.plant
  pub laws : All LawNumbersFit parts.laws
  pub tree : All NodeNumbersFit parts.tree

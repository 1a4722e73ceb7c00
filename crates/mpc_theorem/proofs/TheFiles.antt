-- The file of a plant's controller is the plant's own, of which there is one, and each such file is that of the controller.
use Rattle.std.proofs.Common.{◌≡◌, List, ℕ, ap, sym, subst, ◌∙◌}
use Rattle.mpc_plant.specs.declared.plants.Plant.{Plant}
use Rattle.mpc_rows.specs.declared.programs.Qp.{Qp}
use Rattle.mpc_rows.specs.Candidates.{IsTable}
use Rattle.mpc_condense.specs.Condensed.{IsCondensed}
use Rattle.mpc_condense.specs.BestReplies.{OneProgram}
use Rattle.mpc_tree.specs.Trees.{whole_box}
use Rattle.mpc_tree.specs.Certified.{IsOwnTree, CertifiedIsOwn, OneOwnTree, TableHasLaws}
use Rattle.mpc_synthesis.specs.RightReplies.{OneTable}
use Rattle.mpc_controller.specs.Parts.{Parts}
use Rattle.mpc_grammar.specs.declared.versions.Version.TheVariants.{Three}
use Rattle.mpc_synthesis.specs.Controllers.{IsController}
use Rattle.mpc_theorem.specs.PlantFile.{IsPlantText, OnePlantText}
use Rattle.mpc_theorem.specs.ControllerFile.{IsControllerFile, file_text}
use Rattle.mpc_theorem.specs.FileOutputs.{IsTheFile, OneFile}
use Rattle.mpc_theorem.proofs.RightControllers.{controls_its_plant}

pub the_file : CertifiedIsOwn → (input output : List ℕ) (plant : Plant) (qp : Qp) (parts : Parts) → IsPlantText input parts.plant → IsController plant qp parts → IsControllerFile Three parts output → IsTheFile input output
the_file own input output plant qp parts read is file =
    let has = (controls_its_plant plant qp parts is).is_sealed.has_tree in
    record {
      qp = qp;
      parts = parts;
      read = read;
      condensed = has.verdicts.has_program.condensed;
      table = has.table;
      tree = own qp parts.laws whole_box parts.tree has.certified;
      file = file;
    }

-- the plant, the laws and the tree that a file is of
abbrev AreItsOwn : List ℕ → Qp → Parts → Type 0
AreItsOwn input qp parts = IsPlantText input parts.plant × IsCondensed qp parts.plant × IsTable qp parts.laws × IsOwnTree qp parts.laws whole_box parts.tree

file_own : (input output : List ℕ) → (f : IsTheFile input output) → AreItsOwn input f.qp f.parts
file_own input output f = (f.read, f.condensed, f.table, f.tree)

module _ (one_plant : OnePlantText) (one_program : OneProgram) (one_table : OneTable) (are_laws : TableHasLaws) (one_tree : OneOwnTree) where
  same_parts : (input : List ℕ) (p q : Qp) (a b : Parts) → AreItsOwn input p a → AreItsOwn input q b → a ≡ b
  same_parts input p q a b own other =
      let plant : b.plant ≡ a.plant = one_plant input b.plant a.plant other.0 own.0 in
      let qp : q ≡ p = one_program a.plant q p (subst (IsCondensed q) plant other.1) own.1 in
      let laws : b.laws ≡ a.laws = one_table p b.laws a.laws (subst (λ r. IsTable r b.laws) qp other.2) own.2 in
      let is_own : IsOwnTree p a.laws whole_box b.tree = subst (λ l. IsOwnTree p l whole_box b.tree) laws (subst (λ r. IsOwnTree r b.laws whole_box b.tree) qp other.3) in
      let tree : b.tree ≡ a.tree = one_tree p a.laws (are_laws p a.laws own.2) whole_box b.tree a.tree is_own own.3 in
      λ i. record { plant = sym plant i; laws = sym laws i; tree = sym tree i }

  pub one_file : OneFile
  one_file input one other a b =
      a.file.text_is ∙ ap (file_text Three) (same_parts input a.qp b.qp a.parts b.parts (file_own input one a) (file_own input other b)) ∙ sym b.file.text_is

  pub its_file : CertifiedIsOwn → (input output : List ℕ) (plant : Plant) (qp : Qp) (parts : Parts) → IsTheFile input output → IsPlantText input plant → IsController plant qp parts → IsControllerFile Three parts output
  its_file own input output plant qp parts f text is =
      let has = (controls_its_plant plant qp parts is).is_sealed.has_tree in
      let its : AreItsOwn input qp parts = (subst (IsPlantText input) (sym is.is_sealed.plant_is) text, has.verdicts.has_program.condensed, has.table, own qp parts.laws whole_box parts.tree has.certified) in
      subst (λ p. IsControllerFile Three p output) (same_parts input f.qp qp f.parts parts (file_own input output f) its) f.file

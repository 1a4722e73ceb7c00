-- A version has a text for each controller that it can state.
use Rattle.std.proofs.Common.{◌≡◌, ℕ, ◌^◌, ◌<◌, ◌≤◌, List, [], ◌++◌, length, map, refl, subst, arith}
use Rattle.std.specs.Prelude.{codes}
use Rattle.mpc_plant.specs.declared.plants.Plant.{Plant}
use Rattle.mpc_rows.specs.declared.laws.Law.{Law}
use Rattle.mpc_rows.specs.declared.trees.Node.{Node}
use Rattle.mpc_controller.specs.Parts.{Parts}
use Rattle.mpc_grammar.specs.declared.versions.Version.{Version}
use Rattle.mpc_grammar.specs.declared.versions.Version.TheVariants.{One, Two, Three}
use Rattle.mpc_grammar.specs.Versions.{number_of}
use Rattle.mpc_grammar.specs.Lines.{count_line}
use Rattle.mpc_grammar.specs.PlantGrammar.{plant}
use Rattle.mpc_grammar.specs.LawGrammar.{law_named}
use Rattle.mpc_grammar.specs.FileGrammar.{parts_with, parts_named, named, behind_plant, Spells}
use Rattle.mpc_grammar.specs.LineTheorems.{WordTheorems, OneFractions, OneIntegers}
use Rattle.mpc_writing.specs.Writing.{Prints, ended}
use Rattle.mpc_writing.specs.FormNames.{forms_text, laws_text, IsTableWritten}
use Rattle.mpc_writing.specs.PlaneNames.{planes_text, tree_text, IsTreeWritten}
use Rattle.mpc_grammar.specs.Statable.{CanState}
use Rattle.mpc_grammar.specs.TextTheorems.{EachText}
use Rattle.mpc_writing.proofs.PrintLemmas.{prints_both}
use Rattle.mpc_writing.proofs.PlantPrints.{plant_text, plant_prints}
use Rattle.mpc_writing.proofs.LawPrints.{laws_same}
use Rattle.mpc_writing.proofs.FilePrints.{nodes_good, named_prints, spells}
use Rattle.mpc_writing.proofs.WrittenPrints.{written_text, written_prints}
use Rattle.mpc_writing.proofs.Numbering.{SomeLawsNumbered, SomeNodesNumbered, laws_numbered, nodes_numbered}

abbrev SomeText : Version → Parts → Type 0
SomeText version x = (bytes : List ℕ) × Spells bytes version x

-- the laws and the nodes that are numbered, as they are written
table : (laws : List Law) → (s : SomeLawsNumbered laws []) → IsTableWritten laws [] (forms_text s.are.forms ++ laws_text s.are.named)
table laws s =
    record {
      forms = s.are.forms;
      named = s.are.named;
      fit = s.are.forms_are.fit;
      different = s.are.forms_are.names_are;
      laws_are = s.are.laws_are;
      in_order = s.are.in_order;
      used = s.are.used;
      few = s.are.few;
      widths = s.are.widths;
      text = refl;
    }

tree : (v : Plant) (nodes : List Node) (old : List ℕ) → (s : SomeNodesNumbered v nodes []) → length nodes < 10 ^ 18 → IsTreeWritten v nodes old (old ++ (planes_text s.are.planes ++ tree_text s.are.named))
tree v nodes old s few =
    let planes_few : length s.are.planes ≤ length nodes = s.few in
    record {
      planes = s.are.planes;
      named = s.are.named;
      good = s.are.planes_are.good;
      different = s.are.planes_are.names_are;
      few = omega arith;
      nodes_are = s.are.nodes_are;
      in_order = s.are.in_order;
      used = s.are.used;
      certs = s.are.certs;
      text = refl;
    }

module _ (words : WordTheorems) (fractions : OneFractions) (integers : OneIntegers) where
  -- the plant and what stands behind it
  with_plant : (version : Version) (x : Parts) → CanState version x → (behind : List ℕ) → Prints (behind_plant version x.plant) x behind → SomeText version x
  with_plant version x can behind prints =
      let rest = plant_text version x.plant ++ behind in
      let bytes = ended (count_line (codes "mpc") (number_of version)) ++ (rest ++ []) in
      (bytes, spells words version x bytes rest refl (prints_both (plant version) (behind_plant version) x.plant x (plant_text version x.plant) behind (plant_prints words version x.plant can.plant) prints))

  named_text : (x : Parts) → length x.tree < 10 ^ 18 → CanState Three x → SomeText Three x
  unfolding table tree
  named_text x few can =
      let v = x.plant in
      let is = can.controller in
      let ls = laws_numbered fractions x.laws can.laws in
      let ns = nodes_numbered integers v x.tree (nodes_good v x.laws x.tree is) can.tree in
      let w = table x.laws ls in
      let t = tree v x.tree (forms_text ls.are.forms ++ laws_text ls.are.named) ns few in
      let laws : map (law_named v ls.are.forms) ls.are.named ≡ x.laws = laws_same v ls.are.forms ls.are.named x.laws ls.are.laws_are is.shapes.laws_fit in
      let same : parts_named v ls.are.forms ls.are.named ns.are.planes ns.are.named ≡ x = λ i. parts_with v (laws i) (ns.are.nodes_are i) in
      with_plant Three x can (forms_text ls.are.forms ++ (laws_text ls.are.named ++ (planes_text ns.are.planes ++ (tree_text ns.are.named ++ ended (codes "end")))))
      (subst (λ y. Prints (named v) y (forms_text ls.are.forms ++ (laws_text ls.are.named ++ (planes_text ns.are.planes ++ (tree_text ns.are.named ++ ended (codes "end")))))) same (named_prints words v x.laws x.tree [] _ _ is w t))

  pub each_text : EachText
  each_text One x few can = with_plant One x can (written_text x.laws x.tree) (written_prints words x.plant x.laws x.tree can.controller can.laws can.tree)
  each_text Two x few can = with_plant Two x can (written_text x.laws x.tree) (written_prints words x.plant x.laws x.tree can.controller can.laws can.tree)
  each_text Three x few can = named_text x (few refl) can

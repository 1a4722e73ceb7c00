-- What is written of a controller spells it.
use Rattle.std.proofs.Common.{◌≡◌, ℕ, ◌+◌, ◌*◌, ◌^◌, ◌<◌, ◌≤◌, List, [], ◌++◌, length, map, refl, sym, ◌∙◌, ap, subst, append_assoc, arith}
use Rattle.std.specs.Prelude.{All, codes}
use Rattle.std.proofs.lemmas.List.{append-nil}
use Rattle.mpc_plant.specs.declared.plants.Plant.{Plant}
use Rattle.mpc_rows.specs.declared.laws.Law.{Law}
use Rattle.mpc_rows.specs.declared.trees.Node.{Node}
use Rattle.mpc_rows.specs.declared.trees.Node.TheVariants.{Split, Law as LawLeaf, NoMove}
use Rattle.mpc_controller.specs.Parts.{Parts, limits_of, row_count, IsLawFor, IsNodeFor}
use Rattle.mpc_controller.specs.Bounds.{NodeFits, IsController}
use Rattle.mpc_grammar.specs.Reading.{one_line, give, ◌>>=◌}
use Rattle.mpc_grammar.specs.Lines.{count_line}
use Rattle.mpc_grammar.specs.PlantGrammar.{plain_rule, plant, UsesAll}
use Rattle.mpc_grammar.specs.LawGrammar.{forms, used_by, named_laws, law_named}
use Rattle.mpc_grammar.specs.TreeGrammar.{planes, planes_used, named_tree, IsWord}
use Rattle.mpc_grammar.specs.FileGrammar.{IsVersion, parts_with, parts_named, named, behind_plant, Spells}
use Rattle.mpc_grammar.specs.LineTheorems.{WordTheorems}
use Rattle.mpc_writing.specs.Writing.{Prints, ended, text_of_lines, plant_lines}
use Rattle.mpc_writing.specs.FormNames.{IsLawNamed, rows_in, forms_text, laws_text, IsTableWritten}
use Rattle.mpc_writing.specs.PlaneNames.{IsGoodNode, planes_text, tree_text, IsTreeWritten}
use Rattle.mpc_grammar.specs.Versions.{number_of}
use Rattle.mpc_grammar.specs.declared.versions.Version.{Version}
use Rattle.mpc_grammar.specs.declared.versions.Version.TheVariants.{One, Two, Three}
use Rattle.mpc_writing.proofs.PrintLemmas.{prints_plain, prints_give, prints_both, prints_end}
use Rattle.mpc_writing.proofs.WithoutLemmas.{plain_without, count_line_without}
use Rattle.mpc_writing.proofs.PlantPrints.{limit_small, all_both}
use Rattle.mpc_writing.proofs.FormNameLemmas.{same_size}
use Rattle.mpc_writing.proofs.LawPrints.{forms_print, laws_print, all_good, laws_same, rows_few, law_widths}
use Rattle.mpc_writing.proofs.TreePrints.{planes_print, tree_prints}

node_good : (v : Plant) (laws : ℕ) (node : Node) → IsNodeFor v.n laws node → NodeFits (limits_of v) node → IsGoodNode v node
node_good v laws (Split row) is fits = record { is_row = is; fits = fits }
node_good v laws (LawLeaf law certs) is fits = tt
node_good v laws (NoMove cert) is fits = tt

pub nodes_good : (v : Plant) (laws : List Law) (tree : List Node) → IsController v laws tree → All (IsGoodNode v) tree
nodes_good v laws tree is = all_both (IsNodeFor v.n (length laws)) (NodeFits (limits_of v)) (IsGoodNode v) (node_good v (length laws)) tree is.shapes.nodes_fit is.bounds.nodes_fit

pub rows_small : (v : Plant) → row_count v < 2 ^ 64
rows_small v = let few = v.is_plant.rows_few in let limit = limit_small (v.p * v.horizon) in omega arith

short_number : (version : Version) → number_of version < 2 ^ 64
short_number One = omega arith
short_number Two = omega arith
short_number Three = omega arith

regroup : (m p f l q r e : List ℕ) → ((((m ++ p) ++ (f ++ l)) ++ (q ++ r)) ++ e) ≡ m ++ ((p ++ (f ++ (l ++ (q ++ (r ++ e))))) ++ [])
regroup m p f l q r e = simp (append_assoc, append-nil)

module _ (words : WordTheorems) where
  -- the lines behind the plant
  pub named_prints : (v : Plant) (laws : List Law) (tree : List Node) (t2 t3 t4 : List ℕ) → IsController v laws tree → (w : IsTableWritten laws t2 t3) → (t : IsTreeWritten v tree t3 t4)
      → Prints (named v) (parts_named v w.forms w.named t.planes t.named) (forms_text w.forms ++ (laws_text w.named ++ (planes_text t.planes ++ (tree_text t.named ++ ended (codes "end")))))
  named_prints v laws tree t2 t3 t4 is w t =
      let for : All (IsLawFor v) laws = is.shapes.laws_fit in
      let count : length w.named ≡ length laws = same_size (IsLawNamed w.forms) w.named laws w.laws_are in
      let laws_few : length laws ≤ 4598479 = is.shapes.laws_few in
      let rows : rows_in laws ≤ 12 * length laws = rows_few v laws v.is_plant.moves_few for in
      let used : length w.forms ≤ rows_in laws = w.few in
      let few : length w.forms < 10 ^ 18 = omega arith in
      let planes_are_few : length t.planes < 10 ^ 18 = t.few in
      let result = parts_named v w.forms w.named t.planes t.named in
      prints_both (forms v) (λ fs. named_laws v fs >>= λ ls. planes v (length fs) (used_by ls) >>= λ ps. named_tree v (length ls) ps >>= λ ns. one_line (plain_rule (UsesAll (length ps) (planes_used ns) (IsWord (codes "end")))) >>= λ u. give (parts_named v fs ls ps ns)) w.forms result
      (forms_text w.forms) _ (forms_print words v w.forms w.different w.fit (w.widths (v.n + 1) (law_widths v laws for)) few)
      (prints_both (named_laws v w.forms) (λ ls. planes v (length w.forms) (used_by ls) >>= λ ps. named_tree v (length ls) ps >>= λ ns. one_line (plain_rule (UsesAll (length ps) (planes_used ns) (IsWord (codes "end")))) >>= λ u. give (parts_named v w.forms ls ps ns)) w.named result
      (laws_text w.named) _ (laws_print words v w.forms w.named (rows_small v) few (omega arith) (all_good v w.forms w.named laws w.laws_are for is.bounds.laws_fit) w.in_order)
      (prints_both (planes v (length w.forms) (used_by w.named)) (λ ps. named_tree v (length w.named) ps >>= λ ns. one_line (plain_rule (UsesAll (length ps) (planes_used ns) (IsWord (codes "end")))) >>= λ u. give (parts_named v w.forms w.named ps ns)) t.planes result
      (planes_text t.planes) _ (planes_print words v (length w.forms) (used_by w.named) t.planes w.used t.different t.good planes_are_few)
      (prints_both (named_tree v (length w.named) t.planes) (λ ns. one_line (plain_rule (UsesAll (length t.planes) (planes_used ns) (IsWord (codes "end")))) >>= λ u. give (parts_named v w.forms w.named t.planes ns)) t.named result
      (tree_text t.named) (ended (codes "end"))
      (tree_prints words v (length w.named) t.planes t.named tree t.nodes_are (omega arith) (omega arith) t.in_order t.certs (subst (λ n. All (IsNodeFor v.n n) tree) (sym count) is.shapes.nodes_fit) is.shapes.complete is.shapes.certs_fit)
      (prints_end (one_line (plain_rule (UsesAll (length t.planes) (planes_used t.named) (IsWord (codes "end"))))) (λ u. give result) tt result (ended (codes "end"))
      (prints_plain (UsesAll (length t.planes) (planes_used t.named) (IsWord (codes "end"))) tt (codes "end") (plain_without (codes "end") refl) (record { stated = refl; all_used = t.used }))
      (prints_give result)))))

  -- a line of the version, and the lines of the parts behind it
  pub spells : (version : Version) (parts : Parts) (bytes rest : List ℕ) → bytes ≡ ended (count_line (codes "mpc") (number_of version)) ++ (rest ++ []) → Prints (plant version >>= behind_plant version) parts rest → Spells bytes version parts
  spells version parts bytes rest whole prints =
      let first : Prints (one_line (plain_rule IsVersion)) version (ended (count_line (codes "mpc") (number_of version))) =
      prints_plain IsVersion version (count_line (codes "mpc") (number_of version)) (count_line_without words (codes "mpc") (number_of version) refl (short_number version)) refl in
      let (behind, first_read) = first.reads (rest ++ []) 1 in
      let (last, lines) = prints.reads [] behind in
      record {
        behind_first = record { rest = rest ++ []; number = behind };
        first = subst (λ t. (one_line (plain_rule IsVersion)).Reads (record { rest = t; number = 1 }) version (record { rest = rest ++ []; number = behind })) (sym whole) first_read;
        number = last;
        lines = lines;
      }

  pub written : (parts : Parts) (t0 t1 t2 t3 t4 t5 : List ℕ) → IsController parts.plant parts.laws parts.tree → t0 ≡ [] → t1 ≡ t0 ++ ended (count_line (codes "mpc") 3) → t2 ≡ t1 ++ text_of_lines (plant_lines parts.plant) → Prints (plant Three) parts.plant (text_of_lines (plant_lines parts.plant))
      → IsTableWritten parts.laws t2 t3 → ((v : Plant) → All (IsGoodNode v) parts.tree → IsTreeWritten v parts.tree t3 t4) → t5 ≡ t4 ++ ended (codes "end") → Spells t5 Three parts
  written parts t0 t1 t2 t3 t4 t5 is empty h1 h2 plant_is w tree_is h5 =
      let v = parts.plant in
      let t : IsTreeWritten v parts.tree t3 t4 = tree_is v (nodes_good v parts.laws parts.tree is) in
      let p = text_of_lines (plant_lines v) in
      let behind = forms_text w.forms ++ (laws_text w.named ++ (planes_text t.planes ++ (tree_text t.named ++ ended (codes "end")))) in
      let laws : map (law_named v w.forms) w.named ≡ parts.laws = laws_same v w.forms w.named parts.laws w.laws_are is.shapes.laws_fit in
      let same : parts_named v w.forms w.named t.planes t.named ≡ parts = λ i. parts_with v (laws i) (t.nodes_are i) in
      let bytes : t5 ≡ ended (count_line (codes "mpc") 3) ++ ((p ++ behind) ++ []) =
      h5 ∙ ap (λ x. x ++ ended (codes "end")) (t.text ∙ ap (λ x. x ++ (planes_text t.planes ++ tree_text t.named)) (w.text ∙ ap (λ x. x ++ (forms_text w.forms ++ laws_text w.named)) (h2 ∙ ap (λ x. x ++ p) (h1 ∙ ap (λ x. x ++ ended (count_line (codes "mpc") 3)) empty))))
      ∙ regroup (ended (count_line (codes "mpc") 3)) p (forms_text w.forms) (laws_text w.named) (planes_text t.planes) (tree_text t.named) (ended (codes "end")) in
      spells Three parts t5 (p ++ behind) bytes
      (prints_both (plant Three) (behind_plant Three) v parts p behind plant_is (subst (λ x. Prints (named v) x behind) same (named_prints v parts.laws parts.tree t2 t3 t4 is w t)))

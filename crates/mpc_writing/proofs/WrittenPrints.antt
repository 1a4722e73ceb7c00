-- The lines of laws and of a tree whose forms and rows are written out are read as these.
use Rattle.std.proofs.Common.{◌≤◌, ◌≡◌, ℕ, ◌+◌, List, [], ◌∷◌, ◌++◌, length, map, refl, sym, ◌∙◌, ap, subst, arith, get_or, nat_lt}
use Rattle.std.specs.Prelude.{All, codes, decimal}
use Rattle.std.specs.Fmt.{signed_decimal}
use Rattle.std.specs.List.{flat_map}
use Rattle.std.proofs.lemmas.List.Elements.{All-map, All-weaker}
use Rattle.std.proofs.Math.Seq.{get_or-append_seam}
use Rattle.mpc_exact.specs.Rational.{ℚ}
use Rattle.mpc_linear.specs.declared.integers.RowInt.{RowInt}
use Rattle.mpc_plant.specs.declared.plants.Plant.{Plant}
use Rattle.mpc_rows.specs.declared.laws.Law.{Law}
use Rattle.mpc_rows.specs.declared.trees.Node.{Node}
use Rattle.mpc_rows.specs.declared.trees.Node.TheVariants.{Split, Law as LawLeaf, NoMove}
use Rattle.mpc_controller.specs.Parts.{limits_of, row_count, IsLawFor}
use Rattle.mpc_controller.specs.Bounds.{FormFits, LawFits, IsController}
use Rattle.mpc_words.specs.Words.{line}
use Rattle.mpc_grammar.specs.Reading.{one_line, give, ◌>>=◌, many}
use Rattle.mpc_grammar.specs.Lines.{count_line, integers_line, fractions_line}
use Rattle.mpc_grammar.specs.PlantGrammar.{AllFit, plain_rule, AreNumbers, IsNumber}
use Rattle.mpc_grammar.specs.LawGrammar.{unknowns, IsLawLine, move_rule, moves, mults, law_with, written_law, law_count, written_laws}
use Rattle.mpc_grammar.specs.TreeGrammar.{IsWord, NodeOver, written_split, written_tree, node_rule, nodes, node_of}
use Rattle.mpc_grammar.specs.TreeGrammar.NodeLine.{split_at}
use Rattle.mpc_grammar.specs.TreeGrammar.StatesNode.{splits}
use Rattle.mpc_grammar.specs.TreeGrammar.NodeOver.{split_node, law_node, no_move_node}
use Rattle.mpc_grammar.specs.FileGrammar.{parts_with, written}
use Rattle.mpc_grammar.specs.LineTheorems.{WordTheorems}
use Rattle.mpc_writing.specs.Writing.{Prints, ended}
use Rattle.mpc_writing.specs.FormNames.{HasWidth}
use Rattle.mpc_writing.specs.PlaneNames.{IsGoodPlane, IsGoodNode}
use Rattle.mpc_grammar.specs.Statable.{LawNumbersFit, NodeNumbersFit}
use Rattle.mpc_writing.proofs.PrintLemmas.{prints_line, prints_plain, prints_give, prints_both, prints_end, prints_counted, prints_so_many, in_list}
use Rattle.mpc_writing.proofs.WithoutLemmas.{line_without, plain_without, count_line_without, fractions_line_without}
use Rattle.mpc_writing.proofs.PlantPrints.{all_both}
use Rattle.mpc_writing.proofs.LawPrints.{numbers_without, rises_small, law_width}
use Rattle.mpc_writing.proofs.TreePrints.{integers_without}
use Rattle.mpc_writing.proofs.NodePrints.{text_over, nodes_print}
use Rattle.mpc_writing.proofs.FilePrints.{nodes_good, rows_small}

-- ---- texts
abbrev forms_text : List ℕ → List (List ℚ) → List ℕ
forms_text name forms = flat_map (λ form. ended (fractions_line name form)) forms

abbrev law_text : Law → List ℕ
law_text law = ended (line (codes "law") (map decimal law.set)) ++ (forms_text (codes "move") law.moves.rows ++ forms_text (codes "mult") law.mults.rows)

abbrev laws_text : List Law → List ℕ
laws_text laws = ended (count_line (codes "laws") (length laws)) ++ flat_map law_text laws

abbrev split_line : RowInt → List ℕ
split_line row = integers_line (codes "split") (row.a ++ row.b ∷ [])

-- the node as a line states it
abbrev stated : Node → NodeOver RowInt
stated (Split row) = split_node row
stated (LawLeaf law certs) = law_node law certs
stated (NoMove cert) = no_move_node cert

abbrev tree_text : List Node → List ℕ
tree_text tree = ended (codes "tree") ++ flat_map (text_over split_line) (map stated tree)

abbrev pub written_text : List Law → List Node → List ℕ
written_text laws tree = laws_text laws ++ (tree_text tree ++ ended (codes "end"))

-- ---- nodes that are stated
written_stated : (node : Node) → (node_of (λ row. row)) (stated node) ≡ node
written_stated (Split row) = refl
written_stated (LawLeaf law certs) = refl
written_stated (NoMove cert) = refl

all_stated : (tree : List Node) → map (node_of (λ row. row)) (map stated tree) ≡ tree
all_stated [] = refl
all_stated (node ∷ tree) = λ i. written_stated node i ∷ all_stated tree i

-- a split that is stated is one of the tree
split_in : (P : Node → Type 0) (tree : List Node) (before : List (NodeOver RowInt)) (row : RowInt) (after : List (NodeOver RowInt)) → map stated tree ≡ before ++ split_node row ∷ after → All P tree → P (Split row)
split_in P tree before row after whole all =
    in_list (λ x. P ((node_of (λ row. row)) x)) before (split_node row) after
    (subst (All (λ x. P ((node_of (λ row. row)) x))) whole (All-map (λ x. P ((node_of (λ row. row)) x)) stated tree (All-weaker P (λ node. P ((node_of (λ row. row)) (stated node))) (λ node h. subst P (sym (written_stated node)) h) tree all)))

-- the law that its lines make
same_law : (v : Plant) (law : Law) → IsLawFor v law → law_with v law.set law.moves.rows law.mults.rows ≡ law
same_law v law is = λ i. record { set = law.set; moves = record { rows = law.moves.rows; columns = sym is.moves_shape.columns_are i }; mults = record { rows = law.mults.rows; columns = sym is.mults_shape.columns_are i } }

-- ---- laws
module _ (words : WordTheorems) where
  form_states : (name : List ℕ) (n : ℕ) (form : List ℚ) → HasWidth (n + 1) form → AllFit form → AreNumbers name (n + 1) (fractions_line name form) form
  form_states name n form size fits = record { spelled = refl; size = size; fits = fits }

  mult_prints : (v : Plant) (form : List ℚ) → HasWidth (v.n + 1) form → AllFit form → Prints (one_line (plain_rule (AreNumbers (codes "mult") (v.n + 1)))) form (ended (fractions_line (codes "mult") form))
  mult_prints v form size fits = prints_plain (AreNumbers (codes "mult") (v.n + 1)) form (fractions_line (codes "mult") form) (fractions_line_without words (codes "mult") form refl fits) (form_states (codes "mult") v.n form size fits)

  mults_print : (v : Plant) (law : Law) → IsLawFor v law → LawNumbersFit law → Prints (mults v (length law.set)) law.mults.rows (forms_text (codes "mult") law.mults.rows)
  mults_print v law is fit =
      prints_so_many (plain_rule (AreNumbers (codes "mult") (v.n + 1))) (length law.set) (λ form. ended (fractions_line (codes "mult") form)) law.mults.rows (sym is.mults_shape.rows_are)
      (all_both (HasWidth (v.n + 1)) AllFit (λ form. Prints (one_line (plain_rule (AreNumbers (codes "mult") (v.n + 1)))) form (ended (fractions_line (codes "mult") form))) (mult_prints v) law.mults.rows (law_width v law is).1 fit.mults)

  moves_print : (v : Plant) (law : Law) → IsLawFor v law → LawFits v law → LawNumbersFit law → Prints (moves v) law.moves.rows (forms_text (codes "move") law.moves.rows)
  moves_print v law is bounds fit =
      prints_counted (λ (before : List (List ℚ)). one_line (move_rule v (length before))) (unknowns v) (λ form. ended (fractions_line (codes "move") form)) law.moves.rows (sym is.moves_shape.rows_are)
      (λ before form after whole.
      let size : HasWidth (v.n + 1) form = in_list (HasWidth (v.n + 1)) before form after (subst (All (HasWidth (v.n + 1))) whole (law_width v law is).0) in
      let fits : AllFit form = in_list AllFit before form after (subst (All AllFit) whole fit.moves) in
      let here : get_or law.moves.rows (length before) [] ≡ form = ap (λ rows. get_or rows (length before) []) whole ∙ get_or-append_seam before form after [] in
      prints_line (move_rule v (length before)) form (fractions_line (codes "move") form) (fractions_line_without words (codes "move") form refl fits) (form_states (codes "move") v.n form size fits)
      (λ over. over.1 (subst (FormFits (limits_of v)) here (bounds (length before) over.0))))

  law_prints : (v : Plant) (law : Law) → IsLawFor v law → LawFits v law → LawNumbersFit law → Prints (written_law v) law (law_text law)
  law_prints v law is bounds fit =
      let result = law_with v law.set law.moves.rows law.mults.rows in
      subst (λ x. Prints (written_law v) x (law_text law)) (same_law v law is)
      (prints_both (one_line (plain_rule (IsLawLine v))) (λ set. moves v >>= λ zs. mults v (length set) >>= λ ls. give (law_with v set zs ls)) law.set result
      (ended (line (codes "law") (map decimal law.set))) (forms_text (codes "move") law.moves.rows ++ forms_text (codes "mult") law.mults.rows)
      (prints_plain (IsLawLine v) law.set (line (codes "law") (map decimal law.set)) (line_without (codes "law") (map decimal law.set) refl (numbers_without words law.set (rises_small 0 (row_count v) law.set (rows_small v) is.set_of_rows.rises)))
      (record { spelled = refl; set_of_rows = is.set_of_rows; few = is.few }))
      (prints_both (moves v) (λ zs. mults v (length law.set) >>= λ ls. give (law_with v law.set zs ls)) law.moves.rows result (forms_text (codes "move") law.moves.rows) (forms_text (codes "mult") law.mults.rows) (moves_print v law is bounds fit)
      (prints_end (mults v (length law.set)) (λ ls. give (law_with v law.set law.moves.rows ls)) law.mults.rows result (forms_text (codes "mult") law.mults.rows) (mults_print v law is fit) (prints_give result))))

  laws_print : (v : Plant) (laws : List Law) (tree : List Node) → IsController v laws tree → All LawNumbersFit laws → Prints (written_laws v) laws (laws_text laws)
  laws_print v laws tree is fit =
      let few = is.shapes.laws_few in
      prints_both law_count (λ count. many (λ before. written_law v) (λ (before : List Law). nat_lt (length before) count)) (length laws) laws (ended (count_line (codes "laws") (length laws))) (flat_map law_text laws)
      (prints_plain (IsNumber (codes "laws") (λ number. number ≤ 4598479)) (length laws) (count_line (codes "laws") (length laws)) (count_line_without words (codes "laws") (length laws) refl (omega arith)) (record { spelled = refl; allowed = few }))
      (prints_counted (λ (before : List Law). written_law v) (length laws) law_text laws refl
      (λ before law after whole.
      law_prints v law (in_list (IsLawFor v) before law after (subst (All (IsLawFor v)) whole is.shapes.laws_fit)) (in_list (LawFits v) before law after (subst (All (LawFits v)) whole is.bounds.laws_fit))
      (in_list LawNumbersFit before law after (subst (All LawNumbersFit) whole fit))))

  -- ---- the tree
  split_prints : (v : Plant) (laws : ℕ) (row : RowInt) → IsGoodPlane v row → Prints (one_line (node_rule laws (written_split v))) (split_at row) (ended (split_line row))
  split_prints v laws row good =
      prints_line (node_rule laws (written_split v)) (split_at row) (split_line row) (line_without (codes "split") (map signed_decimal (row.a ++ row.b ∷ [])) refl (integers_without words (row.a ++ row.b ∷ []) good.is_row.small))
      (splits row (record { row_is = record { spelled = refl; size = good.is_row.size; small = good.is_row.small }; plane = record { some = good.is_row.some; no_divisor = good.is_row.no_divisor } }))
      (λ over. over good.fits)

  tree_prints : (v : Plant) (laws : List Law) (tree : List Node) → IsController v laws tree → All NodeNumbersFit tree → Prints (written_tree v (length laws)) tree (tree_text tree)
  tree_prints v laws tree is fit =
      let few = is.shapes.laws_few in
      let same : map (node_of (λ row. row)) (map stated tree) ≡ tree = all_stated tree in
      prints_both (one_line (plain_rule (IsWord (codes "tree")))) (λ u. nodes v (length laws) (λ before. written_split v) >>= λ ns. give (map (node_of (λ row. row)) ns)) tt tree (ended (codes "tree")) (flat_map (text_over split_line) (map stated tree))
      (prints_plain (IsWord (codes "tree")) tt (codes "tree") (plain_without (codes "tree") refl) refl)
      (prints_end (nodes v (length laws) (λ before. written_split v)) (λ ns. give (map (node_of (λ row. row)) ns)) (map stated tree) tree (flat_map (text_over split_line) (map stated tree))
      (nodes_print words (λ row. row) split_line v (length laws) (λ before. written_split v) (map stated tree) tree same (omega arith)
      (λ before row after whole. split_prints v (length laws) row (split_in (IsGoodNode v) tree before row after whole (nodes_good v laws tree is)))
      fit is.shapes.nodes_fit is.shapes.complete is.shapes.certs_fit)
      (subst (λ ns. Prints (give ns) tree []) (sym (all_stated tree)) (prints_give tree)))

  -- ---- what stands behind the plant
  pub written_prints : (v : Plant) (laws : List Law) (tree : List Node) → IsController v laws tree → All LawNumbersFit laws → All NodeNumbersFit tree → Prints (written v) (parts_with v laws tree) (written_text laws tree)
  written_prints v laws tree is laws_fit tree_fits =
      let result = parts_with v laws tree in
      prints_both (written_laws v) (λ ls. written_tree v (length ls) >>= λ ns. one_line (plain_rule (IsWord (codes "end"))) >>= λ u. give (parts_with v ls ns)) laws result (laws_text laws) (tree_text tree ++ ended (codes "end")) (laws_print v laws tree is laws_fit)
      (prints_both (written_tree v (length laws)) (λ ns. one_line (plain_rule (IsWord (codes "end"))) >>= λ u. give (parts_with v laws ns)) tree result (tree_text tree) (ended (codes "end")) (tree_prints v laws tree is tree_fits)
      (prints_end (one_line (plain_rule (IsWord (codes "end")))) (λ u. give result) tt result (ended (codes "end")) (prints_plain (IsWord (codes "end")) tt (codes "end") (plain_without (codes "end") refl) refl) (prints_give result)))

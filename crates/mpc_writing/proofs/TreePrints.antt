-- The lines of planes and of nodes that name them are read as the tree.
use Rattle.std.proofs.Common.{◌≡◌, ℕ, ℤ, ◌*◌, ◌^◌, ◌<◌, ◌≤◌, List, [], ◌∷◌, ◌++◌, length, map, refl, subst, arith, length-append}
use Rattle.std.specs.Prelude.{All, Contains, fold, codes, unsigned_abs}
use Rattle.std.specs.Fmt.{signed_decimal}
use Rattle.std.specs.List.{flat_map}
use Rattle.std.proofs.lemmas.List.Elements.{All-head, All-tail, All-map, All-weaker}
use Rattle.mpc_linear.specs.declared.integers.RowInt.{RowInt}
use Rattle.mpc_linear.specs.Whole.{AreSmall}
use Rattle.mpc_plant.specs.declared.plants.Plant.{Plant}
use Rattle.mpc_rows.specs.declared.trees.Node.{Node}
use Rattle.mpc_controller.specs.Parts.{row_count, IsNodeFor}
use Rattle.mpc_controller.specs.Certificates.{HaveCerts}
use Rattle.mpc_controller.specs.Preorder.{IsTree}
use Rattle.mpc_words.specs.Words.{IsWithout, behind_blanks}
use Rattle.mpc_grammar.specs.Reading.{one_line, give, ◌>>=◌}
use Rattle.mpc_grammar.specs.Lines.{count_line}
use Rattle.mpc_grammar.specs.PlantGrammar.{plain_rule, UsesAll, IsNumber}
use Rattle.mpc_grammar.specs.TreeGrammar.{plane_rule, planes, node_rule, NodeOver, nodes, IsWord, used_with, planes_used, plane_named, named_split, named_tree, node_of}
use Rattle.mpc_grammar.specs.TreeGrammar.NodeLine.{split_at}
use Rattle.mpc_grammar.specs.TreeGrammar.StatesNode.{splits}
use Rattle.mpc_grammar.specs.TreeGrammar.NodeOver.{split_node, law_node, no_move_node}
use Rattle.mpc_grammar.specs.LineTheorems.{WordTheorems}
use Rattle.mpc_writing.specs.Writing.{Prints, ended, text_of_lines}
use Rattle.mpc_writing.specs.Names.{AreDifferent}
use Rattle.mpc_grammar.specs.Statable.{NodeNumbersFit}
use Rattle.mpc_writing.specs.PlaneNames.{plane_line, IsGoodPlane, CertsFit, node_text, NamesInOrder, PlanesInOrder, planes_text, tree_text}
use Rattle.mpc_writing.proofs.PrintLemmas.{prints_line, prints_plain, prints_give, prints_both, prints_end, prints_as, prints_counted, in_list}
use Rattle.mpc_writing.proofs.WithoutLemmas.{line_without, plain_without, count_line_without}
use Rattle.mpc_writing.proofs.PlantPrints.{each_ended}
use Rattle.mpc_writing.proofs.LawPrints.{different_items}
use Rattle.mpc_writing.proofs.NodePrints.{text_over, nodes_print}

-- ---- nodes whose splits are named
order_at : (all used : ℕ) (before : List (NodeOver ℕ)) (x : NodeOver ℕ) (after : List (NodeOver ℕ)) → PlanesInOrder all used (before ++ x ∷ after) → NamesInOrder all (fold used_with used before) x
order_at all used [] x after h = h.0
order_at all used (b ∷ before) x after h = order_at all (used_with used b) before x after h.1

numbers_fit : (ps : List RowInt) (x : NodeOver ℕ) → CertsFit x → NodeNumbersFit (node_of (plane_named ps) x)
numbers_fit ps (split_node k) fit = tt
numbers_fit ps (law_node j cs) fit = fit
numbers_fit ps (no_move_node c) fit = fit

same_text : (x : NodeOver ℕ) → node_text x ≡ text_over (count_line (codes "split")) x
same_text (split_node k) = refl
same_text (law_node j cs) = refl
same_text (no_move_node c) = refl

module _ (words : WordTheorems) where
  -- ---- planes
  pub integers_without : (zs : List ℤ) → AreSmall zs → All (IsWithout 10) (map signed_decimal zs)
  integers_without zs small = All-map (IsWithout 10) signed_decimal zs (All-weaker (λ z. unsigned_abs z < 2 ^ 127) (λ z. IsWithout 10 (signed_decimal z)) (λ z h. (words.integer_word z (omega arith)).no_line_feed) zs small)

  plane_prints : (plant : Plant) (before : List RowInt) (row : RowInt) → ¬ Contains before row → IsGoodPlane plant row → Prints (one_line (plane_rule plant before)) row (ended (plane_line row))
  plane_prints plant before row new good =
      prints_line (plane_rule plant before) row (plane_line row) (line_without (codes "plane") (map signed_decimal (row.a ++ row.b ∷ [])) refl (integers_without (row.a ++ row.b ∷ []) good.is_row.small))
      (record { stated = record { row_is = record { spelled = refl; size = good.is_row.size; small = good.is_row.small }; plane = record { some = good.is_row.some; no_divisor = good.is_row.no_divisor } }; new_one = new })
      (λ over. over good.fits)

  pub planes_print : (plant : Plant) (all used : ℕ) (ps : List RowInt) → used ≡ all → AreDifferent (map plane_line ps) → All (IsGoodPlane plant) ps → length ps < 10 ^ 18 → Prints (planes plant all used) ps (planes_text ps)
  planes_print plant all used ps same different good few =
      prints_both (one_line (plain_rule (UsesAll all used (IsNumber (codes "planes") (λ number. number < 10 ^ 18))))) _ (length ps) ps (ended (count_line (codes "planes") (length ps))) (text_of_lines (map plane_line ps))
      (prints_plain (UsesAll all used (IsNumber (codes "planes") (λ number. number < 10 ^ 18))) (length ps) (count_line (codes "planes") (length ps)) (count_line_without words (codes "planes") (length ps) refl (omega arith)) (record { stated = record { spelled = refl; allowed = few }; all_used = same }))
      (prints_as _ ps (flat_map (λ row. ended (plane_line row)) ps) (text_of_lines (map plane_line ps)) (each_ended plane_line ps)
      (prints_counted (λ before. one_line (plane_rule plant before)) (length ps) (λ row. ended (plane_line row)) ps refl
      (λ before row after whole. plane_prints plant before row (different_items plane_line ps different before row after whole) (in_list (IsGoodPlane plant) before row after (subst (All (IsGoodPlane plant)) whole good)))))

  -- a plane's line has nine bytes at least
  word_size : (z : ℤ) → unsigned_abs z < 2 ^ 127 → 1 ≤ length (signed_decimal z)
  word_size z small = let some = (words.integer_word z (omega arith)).some in omega arith

  words_size : (zs : List ℤ) (b : ℤ) → AreSmall (zs ++ b ∷ []) → 2 ≤ length (behind_blanks (map signed_decimal (zs ++ b ∷ [])))
  words_size [] b small = let one = word_size b (All-head (λ z. unsigned_abs z < 2 ^ 127) b [] small) in let size = length-append (32 ∷ signed_decimal b) [] in omega arith
  words_size (z ∷ zs) b small =
      let rest = words_size zs b (All-tail (λ z. unsigned_abs z < 2 ^ 127) z (zs ++ b ∷ []) small) in
      let size = length-append (32 ∷ signed_decimal z) (behind_blanks (map signed_decimal (zs ++ b ∷ []))) in
      omega arith

  two_words : (zs : List ℤ) (b : ℤ) → 1 ≤ length zs → AreSmall (zs ++ b ∷ []) → 4 ≤ length (behind_blanks (map signed_decimal (zs ++ b ∷ [])))
  two_words [] b some small = absurd (omega arith)
  two_words (z ∷ zs) b some small =
      let one = word_size z (All-head (λ z. unsigned_abs z < 2 ^ 127) z (zs ++ b ∷ []) small) in
      let rest = words_size zs b (All-tail (λ z. unsigned_abs z < 2 ^ 127) z (zs ++ b ∷ []) small) in
      let size = length-append (32 ∷ signed_decimal z) (behind_blanks (map signed_decimal (zs ++ b ∷ []))) in
      omega arith

  plane_size : (plant : Plant) (row : RowInt) → 1 ≤ plant.n → IsGoodPlane plant row → 10 ≤ length (ended (plane_line row))
  plane_size plant row some good =
      let entries : length row.a ≡ plant.n = good.is_row.size in
      let words = two_words row.a row.b (omega arith) good.is_row.small in
      let first = length-append (codes "plane") (behind_blanks (map signed_decimal (row.a ++ row.b ∷ []))) in
      let whole = length-append (plane_line row) (codes "\n") in
      omega arith

  planes_size : (plant : Plant) (ps : List RowInt) → 1 ≤ plant.n → All (IsGoodPlane plant) ps → 10 * length ps ≤ length (text_of_lines (map plane_line ps))
  planes_size plant [] some good = omega arith
  planes_size plant (row ∷ ps) some good =
      let one = plane_size plant row some (All-head (IsGoodPlane plant) row ps good) in
      let rest = planes_size plant ps some (All-tail (IsGoodPlane plant) row ps good) in
      let size = length-append (ended (plane_line row)) (text_of_lines (map plane_line ps)) in
      omega arith

  pub planes_few : (plant : Plant) (ps : List RowInt) → 1 ≤ plant.n → All (IsGoodPlane plant) ps → length (text_of_lines (map plane_line ps)) < 2 ^ 63 → length ps < 10 ^ 18
  planes_few plant ps some good short = let size = planes_size plant ps some good in omega arith

  named_split_prints : (laws all used k : ℕ) → all < 2 ^ 64 → NamesInOrder all used (split_node k) → Prints (one_line (node_rule laws (named_split all used))) (split_at k) (ended (count_line (codes "split") k))
  named_split_prints laws all used k short order =
      let within = order.1 in
      prints_line (node_rule laws (named_split all used)) (split_at k) (count_line (codes "split") k) (count_line_without words (codes "split") k refl (omega arith)) (splits k (record { spelled = refl; allowed = order })) (λ over. over)

  pub tree_prints : (plant : Plant) (laws : ℕ) (ps : List RowInt) (named : List (NodeOver ℕ)) (tree : List Node) → map (node_of (plane_named ps)) named ≡ tree → laws < 2 ^ 64 → length ps < 2 ^ 64 → PlanesInOrder (length ps) 0 named → All CertsFit named
      → All (IsNodeFor plant.n laws) tree → IsTree tree → HaveCerts plant.n (row_count plant) (0 ∷ []) tree → Prints (named_tree plant laws ps) named (tree_text named)
  tree_prints plant laws ps named tree same few short order fit are is have =
      let nodes_same : map (node_of (plane_named ps)) named ≡ tree = same in
      let numbers : All NodeNumbersFit tree = subst (All NodeNumbersFit) same (All-map NodeNumbersFit (node_of (plane_named ps)) named (All-weaker CertsFit (λ x. NodeNumbersFit (node_of (plane_named ps) x)) (numbers_fit ps) named fit)) in
      prints_both (one_line (plain_rule (IsWord (codes "tree")))) (λ u. nodes plant laws (λ before. named_split (length ps) (planes_used before)) >>= λ ns. give ns) tt named (ended (codes "tree")) (flat_map node_text named)
      (prints_plain (IsWord (codes "tree")) tt (codes "tree") (plain_without (codes "tree") refl) refl)
      (prints_end (nodes plant laws (λ before. named_split (length ps) (planes_used before))) (λ ns. give ns) named named (flat_map node_text named)
      (prints_as (nodes plant laws (λ before. named_split (length ps) (planes_used before))) named (flat_map (text_over (count_line (codes "split"))) named) (flat_map node_text named) (λ i. flat_map (λ x. same_text x i) named)
      (nodes_print words (plane_named ps) (count_line (codes "split")) plant laws (λ before. named_split (length ps) (planes_used before)) named tree nodes_same few
      (λ before k after whole. named_split_prints laws (length ps) (planes_used before) k short (order_at (length ps) 0 before (split_node k) after (subst (PlanesInOrder (length ps) 0) whole order)))
      numbers are is have))
      (prints_give named))

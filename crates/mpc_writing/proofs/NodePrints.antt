-- The lines of a tree's nodes are read as the nodes, whether their splits' rows are written out or named.
use Rattle.std.proofs.Common.{◌≡◌, ℕ, ◌+◌, ◌^◌, ◌<◌, false, List, [], ◌∷◌, ◌++◌, length, map, refl, sym, ◌∙◌, ap, subst, arith}
use Rattle.std.specs.Prelude.{is_some, slice_get, slice_index_or, All, IsTrue, fold, codes, decimal}
use Rattle.std.specs.List.{flat_map}
use Rattle.std.proofs.lemmas.List.Elements.{All-nil, All-cons, All-head, All-tail, All-map, All-weaker}
use Rattle.mpc_exact.specs.Rational.{ℚ}
use Rattle.mpc_frac.specs.Fits.{FitsFrac}
use Rattle.mpc_frac.specs.Text.{text_of as fraction_text}
use Rattle.mpc_linear.specs.declared.integers.RowInt.{RowInt}
use Rattle.mpc_plant.specs.declared.plants.Plant.{Plant}
use Rattle.mpc_rows.specs.declared.trees.Node.{Node}
use Rattle.mpc_controller.specs.Parts.{row_count, IsNodeFor}
use Rattle.mpc_controller.specs.Certificates.{IsCertOver, cell_rows, HaveCerts}
use Rattle.mpc_controller.specs.Preorder.{IsTree, Spells as SpellsTrees}
use Rattle.mpc_words.specs.Words.{IsWithout}
use Rattle.mpc_grammar.specs.Reading.{LineRule, one_line, give}
use Rattle.mpc_grammar.specs.Lines.{count_line, pair_words, cert_line}
use Rattle.mpc_grammar.specs.PlantGrammar.{plain_rule}
use Rattle.mpc_grammar.specs.TreeGrammar.{IsCertLine, certs, node_rule, NodeOver, node_behind, node_at, owed_behind, owed, nodes, node_of}
use Rattle.mpc_grammar.specs.TreeGrammar.NodeLine.{split_at, leaf_of, no_move}
use Rattle.mpc_grammar.specs.TreeGrammar.StatesNode.{names_law, has_none}
use Rattle.mpc_grammar.specs.TreeGrammar.NodeOver.{split_node, law_node, no_move_node}
use Rattle.mpc_grammar.specs.LineTheorems.{WordTheorems}
use Rattle.mpc_writing.specs.Writing.{Prints, ended}
use Rattle.mpc_grammar.specs.WrittenFits.{IsPairFit, CertFits}
use Rattle.mpc_writing.specs.PlaneNames.{certs_text, leaf_text, bare_leaf_text}
use Rattle.mpc_grammar.specs.Statable.{NodeNumbersFit}
use Rattle.mpc_writing.proofs.PrintLemmas.{prints_line, prints_plain, prints_give, prints_both, prints_end, prints_many, prints_so_many, in_list}
use Rattle.mpc_writing.proofs.WithoutLemmas.{line_without, plain_without, number_without, count_line_without, fraction_without}
use Rattle.mpc_writing.proofs.PlantPrints.{all_both}

-- ---- certificates
module _ (words : WordTheorems) where
  pairs_without : (cert : List (ℕ × ℚ)) → CertFits cert → All (IsWithout 10) (flat_map pair_words cert)
  pairs_without [] fits = All-nil (IsWithout 10)
  pairs_without (pair ∷ cert) fits =
      let here = All-head IsPairFit pair cert fits in
      All-cons (IsWithout 10) (decimal pair.0) (fraction_text pair.1 ∷ flat_map pair_words cert) (number_without words pair.0 here.0)
      (All-cons (IsWithout 10) (fraction_text pair.1) (flat_map pair_words cert) (fraction_without words pair.1 here.1) (pairs_without cert (All-tail IsPairFit pair cert fits)))

  cert_prints : (rows : ℕ) (cert : List (ℕ × ℚ)) → IsCertOver rows cert → CertFits cert → Prints (one_line (plain_rule (IsCertLine rows))) cert (ended (cert_line cert))
  cert_prints rows cert is fits =
      prints_plain (IsCertLine rows) cert (cert_line cert) (line_without (codes "cert") (flat_map pair_words cert) refl (pairs_without cert fits))
      (record { spelled = refl; cert_is = is; fits = All-map FitsFrac (λ entry. entry.1) cert (All-weaker IsPairFit (λ pair. FitsFrac pair.1) (λ pair h. h.1) cert fits) })

  certs_print : (rows count : ℕ) (cs : List (List (ℕ × ℚ))) → length cs ≡ count → All (IsCertOver rows) cs → All CertFits cs → Prints (certs rows count) cs (certs_text cs)
  certs_print rows count cs size are fit =
      prints_so_many (plain_rule (IsCertLine rows)) count (λ cert. ended (cert_line cert)) cs (sym size)
      (all_both (IsCertOver rows) CertFits (λ cert. Prints (one_line (plain_rule (IsCertLine rows))) cert (ended (cert_line cert))) (cert_prints rows) cs are fit)

-- ---- what is owed
abbrev owed_step : {Row : Type 0} → List ℕ → NodeOver Row → List ℕ
owed_step depths node = owed_behind node depths

nothing_owed : (depths : List ℕ) → length depths ≡ 0 → is_some (slice_get depths 0) ≡ false
nothing_owed [] e = refl
nothing_owed (d ∷ depths) e = absurd (omega arith)

module _ {Row : Type 0} (row_of : Row → RowInt) where
  certs_at : (n m : ℕ) (depths : List ℕ) (before : List (NodeOver Row)) (x : NodeOver Row) (after : List (NodeOver Row)) → HaveCerts n m depths (map (node_of row_of) (before ++ x ∷ after))
      → HaveCerts n m (fold owed_step depths before) (node_of row_of x ∷ map (node_of row_of) after)
  certs_at n m depths [] x after h = h
  certs_at n m [] (b ∷ before) x after h = absurd h
  certs_at n m (d ∷ depths) (split_node k ∷ before) x after h = certs_at n m ((d + 1) ∷ (d + 1) ∷ depths) before x after h
  certs_at n m (d ∷ depths) (law_node j cs ∷ before) x after h = certs_at n m depths before x after h.1
  certs_at n m (d ∷ depths) (no_move_node c ∷ before) x after h = certs_at n m depths before x after h.1

  none_owed : (depths : List ℕ) (ns : List (NodeOver Row)) (left : ℕ) → SpellsTrees (length depths) (map (node_of row_of) ns) left → length (fold owed_step depths ns) ≡ left
  none_owed depths [] left h = h
  none_owed [] (x ∷ ns) left h = absurd h
  none_owed (d ∷ depths) (split_node k ∷ ns) left h = none_owed ((d + 1) ∷ (d + 1) ∷ depths) ns left h
  none_owed (d ∷ depths) (law_node j cs ∷ ns) left h = none_owed depths ns left h
  none_owed (d ∷ depths) (no_move_node c ∷ ns) left h = none_owed depths ns left h

  all_of : (P : Node → Type 0) (ns : List (NodeOver Row)) → All P (map (node_of row_of) ns) → All (λ x. P (node_of row_of x)) ns
  all_of P [] h = All-nil (λ x. P (node_of row_of x))
  all_of P (x ∷ ns) h = All-cons (λ y. P (node_of row_of y)) x ns (All-head P (node_of row_of x) (map (node_of row_of) ns) h) (all_of P ns (All-tail P (node_of row_of x) (map (node_of row_of) ns) h))

-- ---- nodes
-- the lines of a node whose split's row has this line
abbrev pub text_over : {Row : Type 0} → (Row → List ℕ) → NodeOver Row → List ℕ
text_over line_of (split_node row) = ended (line_of row)
text_over line_of (law_node j cs) = leaf_text j cs
text_over line_of (no_move_node c) = bare_leaf_text c

-- what a node needs that is read where nodes at these depths are owed
record IsReady {Row : Type 0} (line_of : Row → List ℕ) (plant : Plant) (laws : ℕ) (rule : LineRule Row) (depths : List ℕ) (x : NodeOver Row) : Type 0 where
  pub owed_one : IsTrue (is_some (slice_get depths 0))
  pub prints : Prints (node_at plant laws rule (slice_index_or depths 0 0)) x (text_over line_of x)

module _ (words : WordTheorems) {Row : Type 0} (row_of : Row → RowInt) (line_of : Row → List ℕ) (plant : Plant) (laws : ℕ) where
  -- a split's line is read as the split
  abbrev pub SplitPrints : LineRule Row → Row → Type 0
  SplitPrints rule row = Prints (one_line (node_rule laws rule)) (split_at row) (ended (line_of row))

  node_ready : (rule : LineRule Row) (depths : List ℕ) (x : NodeOver Row) (rest : List Node) → laws < 2 ^ 64 → ((row : Row) → x ≡ split_node row → SplitPrints rule row) → NodeNumbersFit (node_of row_of x) → IsNodeFor plant.n laws (node_of row_of x)
      → HaveCerts plant.n (row_count plant) depths (node_of row_of x ∷ rest) → IsReady line_of plant laws rule depths x
  node_ready rule [] x rest few splits fit is have = absurd have
  node_ready rule (depth ∷ depths) (split_node row) rest few splits fit is have =
      record { owed_one = refl; prints = prints_end (one_line (node_rule laws rule)) (node_behind plant depth) (split_at row) (split_node row) (ended (line_of row)) (splits row refl) (prints_give (split_node row)) }
  node_ready rule (depth ∷ depths) (law_node j cs) rest few splits fit is have =
      let most = is.to_high in
      record {
        owed_one = refl;
        prints = prints_both (one_line (node_rule laws rule)) (node_behind plant depth) (leaf_of j) (law_node j cs) (ended (count_line (codes "leaf") j)) (certs_text cs)
            (prints_line (node_rule laws rule) (leaf_of j) (count_line (codes "leaf") j) (count_line_without words (codes "leaf") j refl (omega arith)) (names_law j refl is) (λ over. over))
            (prints_end (certs (cell_rows plant.n depth + 1) (row_count plant)) (λ cs. give (law_node j cs)) cs (law_node j cs) (certs_text cs) (certs_print words (cell_rows plant.n depth + 1) (row_count plant) cs have.0.one_each have.0.each fit) (prints_give (law_node j cs)));
      }
  node_ready rule (depth ∷ depths) (no_move_node c) rest few splits fit is have =
      record {
        owed_one = refl;
        prints = prints_both (one_line (node_rule laws rule)) (node_behind plant depth) no_move (no_move_node c) (ended (codes "none")) (ended (cert_line c))
            (prints_line (node_rule laws rule) no_move (codes "none") (plain_without (codes "none") refl) (has_none refl) (λ over. over))
            (prints_end (one_line (plain_rule (IsCertLine (cell_rows plant.n depth + row_count plant)))) (λ c. give (no_move_node c)) c (no_move_node c) (ended (cert_line c)) (cert_prints words (cell_rows plant.n depth + row_count plant) c have.0 fit) (prints_give (no_move_node c)));
      }

  pub nodes_print : (rule : List (NodeOver Row) → LineRule Row) (ns : List (NodeOver Row)) (tree : List Node) → map (node_of row_of) ns ≡ tree → laws < 2 ^ 64
      → ((before : List (NodeOver Row)) (row : Row) (after : List (NodeOver Row)) → ns ≡ before ++ split_node row ∷ after → SplitPrints (rule before) row)
      → All NodeNumbersFit tree → All (IsNodeFor plant.n laws) tree → IsTree tree → HaveCerts plant.n (row_count plant) (0 ∷ []) tree → Prints (nodes plant laws rule) ns (flat_map (text_over line_of) ns)
  nodes_print rule ns tree same few splits fit are is have =
      let fits = all_of row_of NodeNumbersFit ns (subst (All NodeNumbersFit) (sym same) fit) in
      let nodes_are = all_of row_of (IsNodeFor plant.n laws) ns (subst (All (IsNodeFor plant.n laws)) (sym same) are) in
      prints_many (λ before. node_at plant laws (rule before) (slice_index_or (owed before) 0 0)) (λ (before : List (NodeOver Row)). is_some (slice_get (owed before) 0)) (text_over line_of) ns
      (λ before x after whole.
      let ready : IsReady line_of plant laws (rule before) (owed before) x =
      node_ready (rule before) (owed before) x (map (node_of row_of) after) few
      (λ row e. splits before row after (subst (λ y. ns ≡ before ++ y ∷ after) e whole))
      (in_list (λ y. NodeNumbersFit (node_of row_of y)) before x after (subst (All (λ y. NodeNumbersFit (node_of row_of y))) whole fits))
      (in_list (λ y. IsNodeFor plant.n laws (node_of row_of y)) before x after (subst (All (λ y. IsNodeFor plant.n laws (node_of row_of y))) whole nodes_are))
      (certs_at row_of plant.n (row_count plant) (0 ∷ []) before x after (subst (HaveCerts plant.n (row_count plant) (0 ∷ [])) (sym same ∙ ap (map (node_of row_of)) whole) have)) in
      (ready.owed_one, ready.prints))
      (nothing_owed (owed ns) (none_owed row_of (0 ∷ []) ns 0 (subst (λ ys. SpellsTrees 1 ys 0) (sym same) is)))

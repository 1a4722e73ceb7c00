-- The lines of a search tree are read in one way: those of its nodes, of their certificates, and of its planes.
use Rattle.std.specs.Prelude.{is_some, slice_get, slice_index_or}
use Rattle.std.proofs.Common.{◌≡◌, ℕ, ◌+◌, ◌^◌, ◌<◌, ◌≤◌, inl, inr, Bool, nat_lt, ℤ, List, [], ◌∷◌, ◌++◌, map, fold, length, codes, decimal, refl, sym, ap, subst, ◌∙◌, arith, All, get_or}
use Rattle.std.proofs.lemmas.List.Elements.{All-nil, All-cons, All-head, All-tail}
use Rattle.mpc_exact.specs.Rational.{ℚ}
use Rattle.mpc_frac.specs.Fits.{FitsFrac}
use Rattle.mpc_linear.specs.declared.integers.RowInt.{RowInt}
use Rattle.mpc_plant.specs.Limits.{IsFromTo}
use Rattle.mpc_plant.specs.declared.plants.Plant.{Plant}
use Rattle.mpc_controller.specs.Parts.{row_count}
use Rattle.mpc_controller.specs.Certificates.{cell_rows}
use Rattle.mpc_words.specs.Numerals.{numeral}
use Rattle.mpc_words.specs.Words.{IsWithout, line}
use Rattle.mpc_grammar.specs.Reading.{Cursor, LineRule, Grammar, one_line}
use Rattle.mpc_grammar.specs.Lines.{count_line}
use Rattle.mpc_grammar.specs.PlantGrammar.{AllFit, plain_rule, UsesAll, IsNumber}
use Rattle.mpc_grammar.specs.TreeGrammar.{IsRowOf, IsPlane, IsPlaneLine, IsNoPlane, IsCertLine, certs, NodeLine, split_at, leaf_of, no_move, StatesNode, splits, names_law, has_none, node_rule, NodeOver, split_node, law_node, no_move_node, node_behind, node_at, owed_behind, owed, nodes, written_split, IsWord, written_tree, plane_rule, planes, planes_used, named_split, named_tree, node_of}
use Rattle.mpc_file.proofs.Exactness.{IsExactAt, IsExactRule, CutTheorems, exact_line, exact_give, exact_both, exact_many}
use Rattle.mpc_grammar.specs.LineTheorems.{WordTheorems}
use Rattle.mpc_file.proofs.LineNumbers.{IsShortNumber, IsShortPair, without, same_front, same_back, one_words, decimal_word, one_count, one_integers, one_cert}
use Rattle.mpc_file.proofs.Runs.{IsRun, reach, run_line, run_give, run_both, run_many, items_shorter, items_few}
use Rattle.mpc_file.proofs.PlantExact.{exact_plain, exact_so_many}
use Rattle.mpc_file.proofs.LawExact.{row_count_few, so_few, one_short_count}

-- ---- lines are told apart by their first byte
pub heads : (c d : ℕ) (xs ys : List ℕ) → c ∷ xs ≡ d ∷ ys → c ≡ d
heads c d xs ys e = ap (λ text. get_or text 0 0) e

-- the text begins with this byte
abbrev pub Begins : ℕ → List ℕ → Type 0
Begins c text = (rest : List ℕ) × (text ≡ c ∷ rest)

begins_one : (c d : ℕ) (text : List ℕ) → Begins c text → Begins d text → c ≡ d
begins_one c d text (xs, e) (ys, f) = heads c d xs ys (sym e ∙ f)

leaf_begins : (text : List ℕ) (words : List (List ℕ)) → text ≡ line (codes "leaf") words → Begins 108 text
leaf_begins text words e = (_, e)

none_begins : (text : List ℕ) → text ≡ codes "none" → Begins 110 text
none_begins text e = (_, e)

split_begins : (text : List ℕ) (words : List (List ℕ)) → text ≡ line (codes "split") words → Begins 115 text
split_begins text words e = (_, e)

-- ---- the depths of nodes
-- none is deeper
abbrev WithinDepth : ℕ → List ℕ → Type 0
WithinDepth most [] = Unit {0}
WithinDepth most (d ∷ ds) = (d ≤ most) × WithinDepth most ds

deeper : (m n : ℕ) (ds : List ℕ) → m ≤ n → WithinDepth m ds → WithinDepth n ds
deeper m n [] le h = tt
deeper m n (d ∷ ds) le h = (omega (arith, h.0), deeper m n ds le h.1)

owed_deeper : {Row : Type 0} (m : ℕ) (node : NodeOver Row) (ds : List ℕ) → WithinDepth m ds → WithinDepth (m + 1) (owed_behind node ds)
owed_deeper m node [] h = tt
owed_deeper m (split_node row) (d ∷ ds) h = (omega (arith, h.0), (omega (arith, h.0), deeper m (m + 1) ds (omega arith) h.1))
owed_deeper m (law_node j cs) (d ∷ ds) h = deeper m (m + 1) ds (omega arith) h.1
owed_deeper m (no_move_node c) (d ∷ ds) h = deeper m (m + 1) ds (omega arith) h.1

all_owed : {Row : Type 0} (nodes : List (NodeOver Row)) (m : ℕ) (ds : List ℕ) → WithinDepth m ds → WithinDepth (m + length nodes) (fold (λ depths node. owed_behind node depths) ds nodes)
all_owed [] m ds h = deeper m (m + 0) ds (omega arith) h
all_owed (node ∷ nodes) m ds h =
    deeper (m + 1 + length nodes) (m + length (node ∷ nodes)) (fold (λ depths node. owed_behind node depths) (owed_behind node ds) nodes) (omega arith)
    (all_owed nodes (m + 1) (owed_behind node ds) (owed_deeper m node ds h))

first_within : (m : ℕ) (ds : List ℕ) → WithinDepth m ds → slice_index_or ds 0 0 ≤ m
first_within m [] h = omega arith
first_within m (d ∷ ds) h = h.0

pub depth_few : {Row : Type 0} (nodes : List (NodeOver Row)) → slice_index_or (owed nodes) 0 0 ≤ length nodes
depth_few nodes = omega (arith, first_within (0 + length nodes) (owed nodes) (all_owed nodes 0 (0 ∷ []) (omega arith, tt)))

-- ---- what is read goes on
pub run_certs : (rows count : ℕ) → IsRun (certs rows count)
run_certs rows count = run_many _ _ (λ items. run_line (plain_rule (IsCertLine rows)))

pub run_node_behind : {Row : Type 0} (plant : Plant) (depth : ℕ) (node : NodeLine Row) → IsRun (node_behind plant depth node)
run_node_behind plant depth (split_at row) = run_give (split_node row)
run_node_behind plant depth (leaf_of j) = run_both _ _ (run_certs (cell_rows plant.n depth + 1) (row_count plant)) (λ cs. run_give (law_node j cs))
run_node_behind plant depth no_move = run_both _ _ (run_line (plain_rule (IsCertLine (cell_rows plant.n depth + row_count plant)))) (λ c. run_give (no_move_node c))

pub run_node : {Row : Type 0} (plant : Plant) (laws : ℕ) (split : LineRule Row) (depth : ℕ) → IsRun (node_at plant laws split depth)
run_node plant laws split depth = run_both _ _ (run_line (node_rule laws split)) (λ node. run_node_behind plant depth node)

pub node_takes : {Row : Type 0} (plant : Plant) (laws : ℕ) (split : LineRule Row) (depth : ℕ) (here : Cursor) (x : NodeOver Row) (behind : Cursor) → (node_at plant laws split depth).Reads here x behind → here.number < behind.number
node_takes plant laws split depth here x behind (node, (between, ((text, (taken, good)), rest))) =
    omega (arith, taken.next, (run_node_behind plant depth node).onward between x behind rest)

pub run_nodes : {Row : Type 0} (plant : Plant) (laws : ℕ) (split : List (NodeOver Row) → LineRule Row) → IsRun (nodes plant laws split)
run_nodes plant laws split = run_many _ _ (λ before. run_node plant laws (split before) (slice_index_or (owed before) 0 0))

module _ (cuts : CutTheorems) (laws : WordTheorems) where
  -- ---- certificates
  short_pairs : (rows : ℕ) (cert : List (ℕ × ℚ)) → rows < 10 ^ 64 → All (λ (entry : ℕ × ℚ). entry.0 ≤ rows) cert → AllFit (map (λ entry. entry.1) cert) → All (IsShortPair laws) cert
  short_pairs rows [] few h k = All-nil (IsShortPair laws)
  short_pairs rows ((n, x) ∷ cert) few h k =
      let low : n ≤ rows = All-head (λ (entry : ℕ × ℚ). entry.0 ≤ rows) (n, x) cert h in
      All-cons (IsShortPair laws) (n, x) cert (omega arith, All-head FitsFrac x (map (λ entry. entry.1) cert) k)
      (short_pairs rows cert few (All-tail (λ (entry : ℕ × ℚ). entry.0 ≤ rows) (n, x) cert h) (All-tail FitsFrac x (map (λ entry. entry.1) cert) k))

  same_cert : (rows : ℕ) → rows < 10 ^ 64 → (text : List ℕ) (x y : List (ℕ × ℚ)) → IsCertLine rows text x → IsCertLine rows text y → x ≡ y
  same_cert rows few text x y h k =
      one_cert laws x y (short_pairs rows x few h.cert_is.within h.fits) (short_pairs rows y few k.cert_is.within k.fits) (sym h.spelled ∙ k.spelled)

  exact_cert : (rows : ℕ) → rows < 10 ^ 64 → (here : Cursor) → IsExactAt (one_line (plain_rule (IsCertLine rows))) here
  exact_cert rows few here = exact_plain cuts laws (IsCertLine rows) (same_cert rows few) here

  exact_certs : (rows count : ℕ) → rows < 10 ^ 64 → (here : Cursor) → IsExactAt (certs rows count) here
  exact_certs rows count few here = exact_so_many cuts laws count (plain_rule (IsCertLine rows)) (record { one = same_cert rows few; no_bad_node = λ text x h k. k }) here

  -- ---- numbers in a line that some number may not stand in
  same_number : (first : List ℕ) → IsWithout 32 first → (j k : ℕ) → IsShortNumber j → count_line first j ≡ line first (numeral k ∷ []) → j ≡ k
  same_number first plain j k short e =
      let words : ◌≡◌ {A = List (List ℕ)} (decimal j ∷ []) (numeral k ∷ []) =
      one_words laws first (decimal j ∷ []) (numeral k ∷ []) plain (All-cons (IsWithout 32) (decimal j) [] (decimal_word laws j short).no_blank (All-nil (IsWithout 32)))
      (All-cons (IsWithout 32) (numeral k) [] (laws.natural_word k).no_blank (All-nil (IsWithout 32))) e in
      let word : decimal j ≡ numeral k = cc in
      laws.one_natural j k (laws.printed j short ∙ word)

  -- ---- the line of a node
  -- a split's lines, and those of what is no node, begin with the same byte
  record IsSplitRule {Row : Type 0} (split : LineRule Row) : Type 0 where
    exact : IsExactRule split
    begins : (text : List ℕ) (row : Row) → split.States text row → Begins 115 text
    none_begins_so : (text : List ℕ) → split.IsNoNode text → Begins 115 text

  module _ {Row : Type 0} (count : ℕ) (few : count ≤ 4598479) (split : LineRule Row) (is : IsSplitRule split) where
    one_node : (text : List ℕ) (x y : NodeLine Row) → StatesNode count split.States text x → StatesNode count split.States text y → x ≡ y
    one_node text x y (splits row h) (splits other k) = ap split_at (is.exact.one text row other h k)
    one_node text x y (splits row h) (names_law j e f) = absurd (omega (arith, begins_one 115 108 text (is.begins text row h) (leaf_begins text (decimal j ∷ []) e)))
    one_node text x y (splits row h) (has_none e) = absurd (omega (arith, begins_one 115 110 text (is.begins text row h) (none_begins text e)))
    one_node text x y (names_law j e f) (splits row h) = absurd (omega (arith, begins_one 115 108 text (is.begins text row h) (leaf_begins text (decimal j ∷ []) e)))
    one_node text x y (names_law j e f) (names_law k g h) =
        let low : j ≤ count = f.to_high in
        let high : k ≤ count = h.to_high in
        ap leaf_of (one_count laws (codes "leaf") j k (without 32 (codes "leaf") refl) (omega arith) (omega arith) (sym e ∙ g))
    one_node text x y (names_law j e f) (has_none g) = absurd (omega (arith, begins_one 108 110 text (leaf_begins text (decimal j ∷ []) e) (none_begins text g)))
    one_node text x y (has_none e) (splits row h) = absurd (omega (arith, begins_one 115 110 text (is.begins text row h) (none_begins text e)))
    one_node text x y (has_none e) (names_law j f g) = absurd (omega (arith, begins_one 108 110 text (leaf_begins text (decimal j ∷ []) f) (none_begins text e)))
    one_node text x y (has_none e) (has_none f) = refl

    node_no_bad : (text : List ℕ) (x : NodeLine Row) → StatesNode count split.States text x → ¬ (node_rule count split).IsNoNode text
    node_no_bad text x (splits row h) (inl k) = is.exact.no_bad_node text row h k
    node_no_bad text x (splits row h) (inr (k, (e, not))) = omega (arith, begins_one 115 108 text (is.begins text row h) (leaf_begins text (numeral k ∷ []) e))
    node_no_bad text x (names_law j e f) (inl k) = omega (arith, begins_one 115 108 text (is.none_begins_so text k) (leaf_begins text (decimal j ∷ []) e))
    node_no_bad text x (names_law j e f) (inr (k, (g, not))) =
        let low : j ≤ count = f.to_high in
        not (subst (IsFromTo 1 count) (same_number (codes "leaf") (without 32 (codes "leaf") refl) j k (omega arith) (sym e ∙ g)) f)
    node_no_bad text x (has_none e) (inl k) = omega (arith, begins_one 115 110 text (is.none_begins_so text k) (none_begins text e))
    node_no_bad text x (has_none e) (inr (k, (f, not))) = omega (arith, begins_one 108 110 text (leaf_begins text (numeral k ∷ []) f) (none_begins text e))

    exact_node_line : (here : Cursor) → IsExactAt (one_line (node_rule count split)) here
    exact_node_line here = exact_line cuts (node_rule count split) (record { one = one_node; no_bad_node = node_no_bad }) here

  -- ---- a node and its certificates
  module _ {Row : Type 0} (plant : Plant) (depth : ℕ) (low : depth ≤ 2 ^ 65) where
    exact_node_behind : (node : NodeLine Row) (here : Cursor) → IsExactAt (node_behind plant depth node) here
    exact_node_behind (split_at row) here = exact_give (split_node row) here
    exact_node_behind (leaf_of j) here =
        let states : plant.n ≤ 4 = plant.is_plant.states.to_high in
        exact_both _ _ here (exact_certs (cell_rows plant.n depth + 1) (row_count plant) (omega arith) here) (λ cs at h. exact_give (law_node j cs) at)
    exact_node_behind no_move here =
        let states : plant.n ≤ 4 = plant.is_plant.states.to_high in
        let rows : row_count plant ≤ 60 = row_count_few plant in
        exact_both _ _ here (exact_cert (cell_rows plant.n depth + row_count plant) (omega arith) here) (λ c at h. exact_give (no_move_node c) at)

    exact_node : (count : ℕ) → count ≤ 4598479 → (split : LineRule Row) → IsSplitRule split → (here : Cursor) → IsExactAt (node_at plant count split depth) here
    exact_node count few split is here = exact_both _ _ here (exact_node_line count few split is here) (λ node at h. exact_node_behind node at)

  exact_nodes : {Row : Type 0} (plant : Plant) (count : ℕ) → count ≤ 4598479 → (split : List (NodeOver Row) → LineRule Row) → ((before : List (NodeOver Row)) → IsSplitRule (split before)) → (here : Cursor) → reach here ≤ 2 ^ 65 → IsExactAt (nodes plant count split) here
  exact_nodes {Row} plant count few split is here near =
      let item : List (NodeOver Row) → Grammar (NodeOver Row) = λ before. node_at plant count (split before) (slice_index_or (owed before) 0 0) in
      let asks : List (NodeOver Row) → Bool = λ before. is_some (slice_get (owed before) 0) in
      exact_many item asks here
      (λ before at reads more.
      let lines : here.number + length before ≤ at.number = items_few item asks (λ items from x to h. node_takes plant count (split items) (slice_index_or (owed items) 0 0) from x to h) here before at reads in
      let short : reach at ≤ reach here = items_shorter item asks (λ items. run_node plant count (split items) (slice_index_or (owed items) 0 0)) here before at reads in
      let low : slice_index_or (owed before) 0 0 ≤ length before = depth_few before in
      exact_node plant (slice_index_or (owed before) 0 0) (omega arith) count few (split before) (is before) at)

  -- ---- rows
  one_row_of : (name : List ℕ) → IsWithout 32 name → (n : ℕ) (text : List ℕ) (x y : RowInt) → IsRowOf name n text x → IsRowOf name n text y → x ≡ y
  one_row_of name plain n text x y h k =
      let all : x.a ++ x.b ∷ [] ≡ y.a ++ y.b ∷ [] = one_integers laws name (x.a ++ x.b ∷ []) (y.a ++ y.b ∷ []) plain h.small k.small (sym h.spelled ∙ k.spelled) in
      let size : length x.a ≡ length y.a = h.size ∙ sym k.size in
      let a : x.a ≡ y.a = same_front x.a (x.b ∷ []) y.a (y.b ∷ []) size all in
      let last : ◌≡◌ {A = List ℤ} (x.b ∷ []) (y.b ∷ []) = same_back x.a (x.b ∷ []) y.a (y.b ∷ []) size all in
      let b : x.b ≡ y.b = cc in
      λ i. record { a = a i; b = b i }

  no_other_plane : (name : List ℕ) → IsWithout 32 name → (n : ℕ) (text : List ℕ) (x : RowInt) → IsPlaneLine name n text x → ¬ IsNoPlane name n text
  no_other_plane name plain n text x h (y, (is, not)) = not (subst IsPlane (one_row_of name plain n text x y h.row_is is) h.plane)

  -- ---- the tree
  written_rule : (plant : Plant) → IsSplitRule (written_split plant)
  written_rule plant = record {
    exact = record {
      one = λ text x y h k. one_row_of (codes "split") (without 32 (codes "split") refl) plant.n text x y h.row_is k.row_is;
      no_bad_node = no_other_plane (codes "split") (without 32 (codes "split") refl) plant.n;
    };
    begins = λ text row h. split_begins text _ h.row_is.spelled;
    none_begins_so = λ text h. split_begins text _ h.1.0.spelled;
  }

  pub exact_word : (word : List ℕ) (here : Cursor) → IsExactAt (one_line (plain_rule (IsWord word))) here
  exact_word word here = exact_plain cuts laws (IsWord word) (λ text x y h k. refl) here

  pub exact_written_tree : (plant : Plant) (count : ℕ) → count ≤ 4598479 → (here : Cursor) → reach here ≤ 2 ^ 65 → IsExactAt (written_tree plant count) here
  exact_written_tree plant count few here near =
      exact_both _ _ here (exact_word (codes "tree") here)
      (λ u at h.
      let short : reach at ≤ reach here = (run_line (plain_rule (IsWord (codes "tree")))).shorter here u at h in
      exact_both _ _ at (exact_nodes plant count few (λ before. written_split plant) (λ before. written_rule plant) at (omega arith)) (λ ns to k. exact_give (map (node_of (λ row. row)) ns) to))

  -- ---- planes
  pub exact_planes : (plant : Plant) (all used : ℕ) (here : Cursor) → IsExactAt (planes plant all used) here
  exact_planes plant all used here =
      exact_both _ _ here
      (exact_plain cuts laws (UsesAll all used (IsNumber (codes "planes") (λ number. number < 10 ^ 18))) (λ text x y h k. one_short_count cuts laws (codes "planes") (without 32 (codes "planes") refl) text x y h.stated k.stated) here)
      (λ count at h. exact_many (λ before. one_line (plane_rule plant before)) (λ (before : List RowInt). nat_lt (length before) count) at
      (λ before to reads more. exact_line cuts (plane_rule plant before)
      (record {
        one = λ text x y k l. one_row_of (codes "plane") (without 32 (codes "plane") refl) plant.n text x y k.stated.row_is l.stated.row_is;
        no_bad_node = λ text x k l. no_other_plane (codes "plane") (without 32 (codes "plane") refl) plant.n text x k.stated l;
      }) to))

  named_rule : (all used : ℕ) → all < 10 ^ 18 → IsSplitRule (named_split all used)
  named_rule all used few = record {
    exact = record {
      one = λ text j k h l. one_count laws (codes "split") j k (without 32 (codes "split") refl) (omega (arith, h.allowed.1)) (omega (arith, l.allowed.1)) (sym h.spelled ∙ l.spelled);
      no_bad_node = λ text j h (k, (e, not)).
          let same : j ≡ k = same_number (codes "split") (without 32 (codes "split") refl) j k (omega (arith, h.allowed.1)) (sym h.spelled ∙ e) in
          not (omega (arith, h.allowed.0), omega (arith, h.allowed.1), omega (arith, h.allowed.2));
    };
    begins = λ text k h. split_begins text (decimal k ∷ []) h.spelled;
    none_begins_so = λ text h. split_begins text (numeral h.0 ∷ []) h.1.0;
  }

  pub exact_named_tree : (plant : Plant) (count : ℕ) → count ≤ 4598479 → (ps : List RowInt) → length ps < 10 ^ 18 → (here : Cursor) → reach here ≤ 2 ^ 65 → IsExactAt (named_tree plant count ps) here
  exact_named_tree plant count few ps short here near =
      exact_both _ _ here (exact_word (codes "tree") here)
      (λ u at h.
      let less : reach at ≤ reach here = (run_line (plain_rule (IsWord (codes "tree")))).shorter here u at h in
      exact_both _ _ at
      (exact_nodes plant count few (λ before. named_split (length ps) (planes_used before)) (λ before. named_rule (length ps) (planes_used before) short) at (omega arith))
      (λ ns to k. exact_give ns to))

pub planes_few : (plant : Plant) (all used : ℕ) (here behind : Cursor) (ps : List RowInt) → (planes plant all used).Reads here ps behind → length ps < 10 ^ 18
planes_few plant all used here behind ps (count, (between, ((text, (taken, (states, over))), (reads, none)))) =
    omega (arith, so_few (λ before. one_line (plane_rule plant before)) count between ps behind reads, states.stated.allowed)

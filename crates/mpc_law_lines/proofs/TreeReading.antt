-- The lines of a tree are read one after another.
use Rattle.std.specs.Prelude.{is_some, slice_get, slice_index_or}
use Rattle.std.specs.Int.{◌∣◌}
use Rattle.std.proofs.Common.{◌≡◌, ℕ, ◌+◌, ◌*◌, ◌^◌, ◌<◌, ◌≤◌, Bool, nat_eq, nat_lt, IsTrue, ◌↔◌, List, [], ◌∷◌, ◌++◌, length, map, All, ℤ, pos, codes, Result, Ok, Err, IsErrAnd, inl, inr, refl, sym, ap, ◌∙◌, subst, arith}
use Rattle.std.proofs.lemmas.Bool.Decides.{nat_tests}
use Rattle.std.proofs.lemmas.List.{length-append, length-map, map-append}
use Rattle.std.proofs.lemmas.List.Sums.{fold-append}
use Rattle.std.proofs.lemmas.List.Elements.{All-nil, All-cons, All-head, All-tail, All-weaker}
use native.Mathlib.Nat.{eq-one_of_dvd-one}
use Rattle.mpc_linear.specs.declared.integers.RowInt.{RowInt}
use Rattle.mpc_linear.specs.Whole.{IsShared}
use Rattle.mpc_plant.specs.declared.plants.Plant.{Plant}
use Rattle.mpc_rows.specs.declared.trees.Node.{Node}
use Rattle.mpc_rows.specs.declared.trees.Node.TheVariants.{Split, Law as LawLeaf, NoMove}
use Rattle.mpc_controller.specs.Parts.{row_count, limits_of}
use Rattle.mpc_controller.specs.Certificates.{cell_rows}
use Rattle.mpc_grammar.specs.declared.errors.FileKind.{FileKind}
use Rattle.mpc_grammar.specs.declared.errors.FileKind.TheVariants.{BadNode, OverBound}
use Rattle.mpc_grammar.specs.declared.errors.FileError.{FileError}
use Rattle.mpc_grammar.specs.declared.errors.FileError.TheVariants.{Bad, NoMemory}
use Rattle.mpc_law_lines.specs.declared.tree_lines.PlaneLine.{PlaneLine}
use Rattle.mpc_grammar.specs.Reading.{Cursor, TakesLine, LineRule, Grammar, one_line, give, ◌>>=◌, ReadsItems, no_item, one_more, Outcome}
use Rattle.mpc_grammar.specs.PlantGrammar.{plain_rule}
use Rattle.mpc_grammar.specs.TreeGrammar.{IsPlane, IsCertLine, NodeLine, split_at, leaf_of, no_move, StatesNode, splits, names_law, has_none, NodeOver, split_node, law_node, no_move_node, node_behind, node_at, owed_behind, owed, nodes, certs, IsRowOf, IsPlaneLine, written_split, node_of}
use Rattle.mpc_law_lines.specs.TreeReading.{ReadsPlane, owed_under, NamesLaw, IsNoLeaf, ReadsLeafNode, FailsLeafNode, names_none, is_other, certs_fail, cert_fails, LeafOutcome, written_node_at}

-- ---- planes
pub is_plane : (row : RowInt) (entries : List ℤ) (g : ℕ) → entries ≡ row.a → ¬ All (λ z. z ≡ pos 0) entries → IsShared g (row.a ++ row.b ∷ []) → IsTrue (nat_eq g 1) ↔ IsPlane row
is_plane row entries g e some shared = (
  (λ t. record { some = subst (λ zs. ¬ All (λ z. z ≡ pos 0) zs) e some; no_divisor = λ d a. eq-one_of_dvd-one (divides_one d g (one_if g t) (shared.greatest d a)) }),
  (λ is. if_one g (is.no_divisor g shared.divides)),
)
  where
    divides_one : (d g : ℕ) → g ≡ 1 → d ∣ g → d ∣ 1
    divides_one d g e h = subst (λ n. let P : Type 0 = d ∣ n in P) e h

    one_if : (g : ℕ) → IsTrue (nat_eq g 1) → g ≡ 1
    one_if g t = grind (arith, nat_tests)

    if_one : (g : ℕ) → g ≡ 1 → IsTrue (nat_eq g 1)
    if_one g e = grind (arith, nat_tests)

-- ---- how many bytes are left
pub taken_length : (here behind : Cursor) (line : List ℕ) → TakesLine here line behind → length line + (length behind.rest + 1) ≡ length here.rest
taken_length here behind line t =
    sym (ap length t.cut.joined ∙ length-append line (10 ∷ behind.rest) ∙ ap (λ n. length line + n) (one_more_byte behind.rest))
  where
    one_more_byte : (xs : List ℕ) → length (10 ∷ xs) ≡ length xs + 1
    one_more_byte xs = omega arith

line_shrinks : {X : Type 0} (rule : LineRule X) (here behind : Cursor) (x : X) → (one_line rule).Reads here x behind → length behind.rest ≤ length here.rest
line_shrinks rule here behind x (line, (t, good)) = let l = taken_length here behind line t in omega arith

items_shrink : {X : Type 0} (item : List X → Grammar X) (asks : List X → Bool) → ((before : List X) (b c : Cursor) (x : X) → (item before).Reads b x c → length c.rest ≤ length b.rest)
    → (here : Cursor) (items : List X) (behind : Cursor) → ReadsItems X item asks here items behind → length behind.rest ≤ length here.rest
items_shrink item asks each here [] behind no_item = omega arith
items_shrink item asks each here _ behind (one_more items between x _ before more reads) =
    let front = items_shrink item asks each here items between before in
    let back = each items between behind x reads in
    omega arith

-- ---- nodes
deeper : (n : ℕ) (depths : List ℕ) → All (λ d. d ≤ n) depths → All (λ d. d ≤ n + 1) depths
deeper n depths h = All-weaker (λ d. d ≤ n) (λ d. d ≤ n + 1) (λ d l. omega arith) depths h

module _ {Row : Type 0} (plant : Plant) (laws : ℕ) where
  -- the line of a split isn't empty
  abbrev pub HasText : LineRule Row → Type 0
  HasText split = (text : List ℕ) (row : Row) → split.States text row → 1 ≤ length text

  has_text : (split : LineRule Row) → HasText split → (text : List ℕ) (line : NodeLine Row) → StatesNode laws split.States text line → 1 ≤ length text
  has_text split some text _ (splits row states) = some text row states
  has_text split some text _ (names_law j spelled within) = subst (λ t. 1 ≤ length t) (sym spelled) (omega arith)
  has_text split some text _ (has_none spelled) = subst (λ t. 1 ≤ length t) (sym spelled) (omega arith)

  behind_shrinks : (depth : ℕ) (line : NodeLine Row) (here : Cursor) (x : NodeOver Row) (behind : Cursor) → (node_behind plant depth line).Reads here x behind → length behind.rest ≤ length here.rest
  behind_shrinks depth (split_at row) here x behind h = subst (λ c. length c.rest ≤ length here.rest) (sym h.1) (omega arith)
  behind_shrinks depth (leaf_of j) here x behind (cs, (c, (all, e))) =
      subst (λ b. length b.rest ≤ length here.rest) (sym e.1)
      (items_shrink (λ items. one_line (plain_rule (IsCertLine (cell_rows plant.n depth + 1)))) (λ items. nat_lt (length items) (row_count plant)) (λ before b c x reads. line_shrinks (plain_rule (IsCertLine (cell_rows plant.n depth + 1))) b c x reads) here cs c all.0)
  behind_shrinks depth no_move here x behind (cert, (c, (one, e))) =
      subst (λ b. length b.rest ≤ length here.rest) (sym e.1) (line_shrinks (plain_rule (IsCertLine (cell_rows plant.n depth + row_count plant))) here c cert one)

  pub node_shrinks : (split : LineRule Row) → HasText split → (depth : ℕ) (here : Cursor) (x : NodeOver Row) (behind : Cursor) → (node_at plant laws split depth).Reads here x behind → length behind.rest + 2 ≤ length here.rest
  node_shrinks split some depth here x behind (line, (b, ((text, (t, good)), rest))) =
      let l = taken_length here b text t in
      let s = has_text split some text line good.0 in
      let r = behind_shrinks depth line b x behind rest in
      omega arith

  -- ---- all nodes
  pub owed_more : (before : List (NodeOver Row)) (x : NodeOver Row) → owed (before ++ x ∷ []) ≡ owed_behind x (owed before)
  owed_more before x = fold-append (λ depths node. owed_behind node depths) (0 ∷ []) before (x ∷ [])

  more_items : (before : List (NodeOver Row)) (x : NodeOver Row) → length (before ++ x ∷ []) ≡ length before + 1
  more_items before x = length-append before (x ∷ []) ∙ ap (λ n. length before + n) (one x)
    where
      one : (x : NodeOver Row) → length (x ∷ []) ≡ 1
      one x = refl

  owed_deep : (n : ℕ) (x : NodeOver Row) (depths : List ℕ) → All (λ d. d ≤ n) depths → All (λ d. d ≤ n + 1) (owed_behind x depths)
  owed_deep n x [] h = All-nil (λ d. d ≤ n + 1)
  owed_deep n (split_node row) (depth ∷ depths) h =
      let first : depth + 1 ≤ n + 1 = let l = All-head (λ d. d ≤ n) depth depths h in omega arith in
      All-cons (λ d. d ≤ n + 1) (depth + 1) ((depth + 1) ∷ depths) first (All-cons (λ d. d ≤ n + 1) (depth + 1) depths first (deeper n depths (All-tail (λ d. d ≤ n) depth depths h)))
  owed_deep n (law_node j cs) (depth ∷ depths) h = deeper n depths (All-tail (λ d. d ≤ n) depth depths h)
  owed_deep n (no_move_node c) (depth ∷ depths) h = deeper n depths (All-tail (λ d. d ≤ n) depth depths h)

  module _ (split : List (NodeOver Row) → LineRule Row) where
    abbrev pub item : List (NodeOver Row) → Grammar (NodeOver Row)
    item before = node_at plant laws (split before) (slice_index_or (owed before) 0 0)

    abbrev pub asks : List (NodeOver Row) → Bool
    asks before = is_some (slice_get (owed before) 0)

    -- each node takes two bytes at least, and owes nodes no deeper than there are nodes
    pub nodes_shrink : ((before : List (NodeOver Row)) → HasText (split before)) → (here : Cursor) (ns : List (NodeOver Row)) (behind : Cursor) → ReadsItems (NodeOver Row) item asks here ns behind → length behind.rest + 2 * length ns ≤ length here.rest
    nodes_shrink some here [] behind no_item = omega arith
    nodes_shrink some here _ behind (one_more items between x _ before more reads) =
        let front = nodes_shrink some here items between before in
        let back = node_shrinks (split items) (some items) (slice_index_or (owed items) 0 0) between x behind reads in
        let l = more_items items x in
        omega arith

    pub owed_at_most : (here : Cursor) (ns : List (NodeOver Row)) (behind : Cursor) → ReadsItems (NodeOver Row) item asks here ns behind → All (λ d. d ≤ length ns) (owed ns)
    owed_at_most here [] behind no_item = All-cons (λ d. d ≤ 0) 0 [] (omega arith) (All-nil (λ d. d ≤ 0))
    owed_at_most here _ behind (one_more items between x _ before more reads) =
        subst (All (λ d. d ≤ length (items ++ x ∷ []))) (sym (owed_more items x))
        (subst (λ n. All (λ d. d ≤ n) (owed_behind x (owed items))) (sym (more_items items x)) (owed_deep (length items) x (owed items) (owed_at_most here items between before)))

    -- these nodes are read, of this form, and nodes at these depths are owed
    pub record NodesRead (form : NodeOver Row → Node) (here behind : Cursor) (tree : List Node) (owing : List ℕ) : Type 0 where
      pub ns : List (NodeOver Row)
      pub reads : ReadsItems (NodeOver Row) item asks here ns behind
      pub tree_is : tree ≡ map form ns
      pub owing_is : owing ≡ owed ns

    unfoldable pub no_node : (form : NodeOver Row → Node) (here : Cursor) (tree : List Node) (owing : List ℕ) → tree ≡ [] → owing ≡ 0 ∷ [] → NodesRead form here here tree owing
    no_node form here tree owing e f = record { ns = []; reads = no_item; tree_is = e; owing_is = f }

    module _ (form : NodeOver Row → Node) (here between : Cursor) (tree : List Node) (owing depths : List ℕ) (depth : ℕ) (r : NodesRead form here between tree owing) (at : owing ≡ depth ∷ depths) where
      pub owed_is : owed r.ns ≡ depth ∷ depths
      owed_is = sym r.owing_is ∙ at

      pub depth_is : slice_index_or (owed r.ns) 0 0 ≡ depth
      depth_is = ap (λ (ds : List ℕ). slice_index_or ds 0 0) owed_is

      pub asked : IsTrue (asks r.ns)
      asked = ap (λ (ds : List ℕ). is_some (slice_get ds 0)) owed_is

      -- the next node is no deeper than half of the bytes
      pub depth_small : ((before : List (NodeOver Row)) → HasText (split before)) → length here.rest < 2 ^ 64 → depth < 2 ^ 63
      depth_small some h =
          let deep : depth ≤ length r.ns = All-head (λ d. d ≤ length r.ns) depth depths (subst (All (λ d. d ≤ length r.ns)) owed_is (owed_at_most here r.ns between r.reads)) in
          let bytes = nodes_shrink some here r.ns between r.reads in
          omega arith

      -- one node more
      unfoldable pub node_more : ((x : NodeOver Row) (d : ℕ) (ds : List ℕ) → owed_behind x (d ∷ ds) ≡ owed_under (form x) d ds) → (x : NodeOver Row) (behind : Cursor) → (node_at plant laws (split r.ns) depth).Reads between x behind
          → (node : Node) (more : List Node) (then : List ℕ) → node ≡ form x → more ≡ tree ++ node ∷ [] → then ≡ owed_under node depth depths → NodesRead form here behind more then
      node_more owes x behind reads node more then e m t =
          record {
            ns = r.ns ++ x ∷ [];
            reads = one_more r.ns between x behind r.reads asked (subst (λ d. (node_at plant laws (split r.ns) d).Reads between x behind) (sym depth_is) reads);
            tree_is = m ∙ (λ i. r.tree_is i ++ e i ∷ []) ∙ sym (map-append form r.ns (x ∷ []));
            owing_is = t ∙ ap (λ n. owed_under n depth depths) e ∙ sym (owes x depth depths) ∙ ap (owed_behind x) (sym owed_is) ∙ sym (owed_more r.ns x);
          }

      -- the next node fails
      pub node_fails : {X : Type 0} (give_all : List (NodeOver Row) → Grammar X) (kind : FileKind) (number : ℕ) → (node_at plant laws (split r.ns) depth).Fails between kind number → (nodes plant laws split >>= give_all).Fails here kind number
      node_fails give_all kind number h = inl (r.ns, (between, (r.reads, asked, subst (λ d. (node_at plant laws (split r.ns) d).Fails between kind number) (sym depth_is) h)))

    -- none is owed
    pub nodes_read : (form : NodeOver Row → Node) (here behind : Cursor) (tree : List Node) (owing : List ℕ) (r : NodesRead form here behind tree owing) → owing ≡ [] → (nodes plant laws split).Reads here r.ns behind
    nodes_read form here behind tree owing r e = (r.reads, ap (λ (ds : List ℕ). is_some (slice_get ds 0)) (sym r.owing_is ∙ e))

-- ---- one node, whose line is taken
module _ {X : Type 0} (grammar : Grammar X) (plant : Plant) (laws depth : ℕ) (text : List ℕ) (number : ℕ) (here between behind : Cursor) where
  -- the certificates' reader fails
  leaf_error_by : (error : FileError) → ((kind : FileKind) (place : ℕ) → grammar.Fails here kind place → FailsLeafNode plant laws depth text number here kind place) → Outcome grammar here between (Err error) → LeafOutcome plant laws depth text number here behind (Err error)
  leaf_error_by (Bad kind place) f h = f kind place h
  leaf_error_by NoMemory f h = tt

  leaf_error : (answer : Result Node FileError) (error : FileError) → ((kind : FileKind) (place : ℕ) → grammar.Fails here kind place → FailsLeafNode plant laws depth text number here kind place) → Outcome grammar here between (Err error) → IsErrAnd answer (λ e. e ≡ error)
      → LeafOutcome plant laws depth text number here behind answer
  leaf_error (Ok node) error f h e = absurd e
  leaf_error (Err told) error f h e = subst (λ x. LeafOutcome plant laws depth text number here behind (Err x)) (sym e) (leaf_error_by error f h)

module _ (plant : Plant) (laws depth : ℕ) (text : List ℕ) (number : ℕ) (here between behind : Cursor) (answer : Result Node FileError) (error : FileError) (cell rows : ℕ) (cell_is : cell ≡ cell_rows plant.n depth) (rows_are : rows ≡ row_count plant) where
  pub law_error : (j : ℕ) → NamesLaw laws text j → Outcome (certs (cell + 1) rows) here between (Err error) → IsErrAnd answer (λ e. e ≡ error) → LeafOutcome plant laws depth text number here behind answer
  law_error j names h e =
      leaf_error (certs (cell + 1) rows) plant laws depth text number here between behind answer error
      (λ kind place f. certs_fail j kind place names (subst (λ n. (certs n (row_count plant)).Fails here kind place) (ap (λ n. n + 1) cell_is) (subst (λ n. (certs (cell + 1) n).Fails here kind place) rows_are f))) h e

  pub no_move_error : text ≡ codes "none" → Outcome (one_line (plain_rule (IsCertLine (cell + rows)))) here between (Err error) → IsErrAnd answer (λ e. e ≡ error) → LeafOutcome plant laws depth text number here behind answer
  no_move_error none h e =
      leaf_error (one_line (plain_rule (IsCertLine (cell + rows)))) plant laws depth text number here between behind answer error
      (λ kind place f. cert_fails kind place none (subst (λ n. (one_line (plain_rule (IsCertLine n))).Fails here kind place) (λ i. cell_is i + rows_are i) f)) h e

-- the leaf is that node
abbrev pub IsLeafOf : {Row : Type 0} → Node → NodeOver Row → Type 0
IsLeafOf node (split_node row) = ⊥
IsLeafOf node (law_node j cs) = node ≡ LawLeaf j cs
IsLeafOf node (no_move_node c) = node ≡ NoMove c

module _ {Row Y : Type 0} (plant : Plant) (laws depth : ℕ) (split : LineRule Row) (f : NodeOver Row → Y) (here between : Cursor) (text : List ℕ) (number : ℕ) (number_is : number ≡ here.number) (taken : TakesLine here text between) where
  abbrev node_with : Grammar Y
  node_with = node_at plant laws split depth >>= λ n. give (f n)

  pub split_reads : (row : Row) (y : Y) → split.States text row → ¬ split.IsOver row → y ≡ f (split_node row) → node_with.Reads here y between
  split_reads row y states within e = (split_node row, (between, ((split_at row, (between, ((text, (taken, (splits row states, within))), (refl, refl)))), (e, refl))))

  pub split_over : (row : Row) → split.States text row → split.IsOver row → node_with.Fails here OverBound number
  split_over row states over = inl (inl (number_is, inr (text, (between, (taken, (split_at row, (splits row states, over)))))))

  pub split_none : split.IsNoNode text → node_with.Fails here BadNode number
  split_none none = inl (inl (number_is, inr (text, (between, (taken, inl none)))))

  module _ (no_split : (row : Row) → ¬ split.States text row) (no_node : ¬ split.IsNoNode text) (behind : Cursor) where
    pub leaf_reads : (node : Node) (y : Y) → ReadsLeafNode plant laws depth text between behind node → ((x : NodeOver Row) → IsLeafOf node x → y ≡ f x) → node_with.Reads here y behind
    leaf_reads (Split row) y h e = absurd h
    leaf_reads (LawLeaf j cs) y h e =
        (law_node j cs, (behind, ((leaf_of j, (between, ((text, (taken, (names_law j h.0.spelled h.0.is_law, λ over. over))), (cs, (behind, (h.1, (refl, refl))))))), (e (law_node j cs) refl, refl))))
    leaf_reads (NoMove c) y h e =
        (no_move_node c, (behind, ((no_move, (between, ((text, (taken, (has_none h.0, λ over. over))), (c, (behind, (h.1, (refl, refl))))))), (e (no_move_node c) refl, refl))))

    states_none : IsNoLeaf laws text → (line : NodeLine Row) → ¬ StatesNode laws split.States text line
    states_none h _ (splits row states) = no_split row states
    states_none h _ (names_law j spelled within) = h.no_law j (record { spelled = spelled; is_law = within })
    states_none h _ (has_none spelled) = h.not_none spelled

    pub leaf_fails : (kind : FileKind) (place : ℕ) → FailsLeafNode plant laws depth text number between kind place → node_with.Fails here kind place
    leaf_fails _ _ (names_none h) = inl (inl (number_is, inr (text, (between, (taken, inr h)))))
    leaf_fails _ _ (is_other h) =
        inl (inl (number_is, inr (text, (between, (taken, (states_none h, λ n. elim n as (λ n. ⊥) [ inl a ↦ no_node a | inr b ↦ h.no_number b ]))))))
    leaf_fails _ _ (certs_fail j kind place names h) = inl (inr (leaf_of j, (between, ((text, (taken, (names_law j names.spelled names.is_law, λ over. over))), inl h))))
    leaf_fails _ _ (cert_fails kind place none h) = inl (inr (no_move, (between, ((text, (taken, (has_none none, λ over. over))), inl h))))

written_leaf_is : (node : Node) (x : NodeOver RowInt) → IsLeafOf node x → node ≡ (node_of (λ row. row)) x
written_leaf_is node (split_node row) e = absurd e
written_leaf_is node (law_node j cs) e = e
written_leaf_is node (no_move_node c) e = e

-- what is written out
pub written_leaf : (plant : Plant) (laws depth : ℕ) (here between behind : Cursor) (text : List ℕ) (number : ℕ) → number ≡ here.number → TakesLine here text between → ((row : RowInt) → ¬ IsRowOf (codes "split") plant.n text row)
    → (answer : Result Node FileError) → LeafOutcome plant laws depth text number between behind answer → Outcome (written_node_at plant laws depth) here behind answer
written_leaf plant laws depth here between behind text number e taken none (Ok node) h =
    leaf_reads plant laws depth (written_split plant) (node_of (λ row. row)) here between text number e taken (λ row states. none row states.row_is) (λ no. none no.0 no.1.0) behind node node h (written_leaf_is node)
written_leaf plant laws depth here between behind text number e taken none (Err (Bad kind place)) h =
    leaf_fails plant laws depth (written_split plant) (node_of (λ row. row)) here between text number e taken (λ row states. none row states.row_is) (λ no. none no.0 no.1.0) behind kind place h
written_leaf plant laws depth here between behind text number e taken none (Err NoMemory) h = tt

-- a written node owes what its form does
pub written_owes : (x : NodeOver RowInt) (d : ℕ) (ds : List ℕ) → owed_behind x (d ∷ ds) ≡ owed_under ((node_of (λ row. row)) x) d ds
written_owes (split_node row) d ds = refl
written_owes (law_node j cs) d ds = refl
written_owes (no_move_node c) d ds = refl

-- the line of a split that is written out isn't empty
pub written_text : (plant : Plant) (text : List ℕ) (row : RowInt) → IsPlaneLine (codes "split") plant.n text row → 1 ≤ length text
written_text plant text row is = subst (λ t. 1 ≤ length t) (sym is.row_is.spelled) (omega arith)

-- the counts go up to those of the plant's grid
pub plane_reads : (name : List ℕ) (plant : Plant) (counts : List ℕ) → counts ≡ limits_of plant → (text : List ℕ) (line found : PlaneLine) → line ≡ found → ReadsPlane name (length counts) counts text line → ReadsPlane name plant.n (limits_of plant) text found
plane_reads name plant counts e text line found same h =
    subst (λ n. ReadsPlane name n (limits_of plant) text found) (length-map plant.grid (λ axis. axis.count) ∙ plant.is_plant.grid_size)
    (subst (λ cs. ReadsPlane name (length cs) cs text found) e (subst (λ l. ReadsPlane name (length counts) counts text l) same h))

-- one certificate more
pub one_longer : {X : Type 0} (xs ys : List X) (x : X) (i : ℕ) → ys ≡ xs ++ x ∷ [] → length xs ≡ i → length ys ≡ i + 1
one_longer xs ys x i e l = ap length e ∙ length-append xs (x ∷ []) ∙ ap (λ n. n + 1) l

-- where the node itself is given on
pub node_given : {Row Y : Type 0} (plant : Plant) (laws depth : ℕ) (split : LineRule Row) (f : NodeOver Row → Y) (here behind : Cursor) (y : Y) (h : (node_at plant laws split depth >>= λ n. give (f n)).Reads here y behind) → (node_at plant laws split depth).Reads here h.0 behind
node_given plant laws depth split f here behind y h = subst (λ b. (node_at plant laws split depth).Reads here h.0 b) (sym h.1.1.1.1) h.1.1.0

-- The nodes that lines state are a tree, whose leaves have their certificates.
use Rattle.std.proofs.Common.{◌≡◌, ℕ, ◌+◌, false, IsTrue, List, [], ◌∷◌, ◌++◌, length, map, nat_lt, refl, sym, subst, append_assoc}
use Rattle.std.specs.Prelude.{is_some, slice_get, slice_index_or, All}
use Rattle.std.proofs.lemmas.List.{map-append, append-nil}
use Rattle.std.proofs.lemmas.List.Sums.{fold-append}
use Rattle.std.proofs.lemmas.List.Elements.{All-map}
use Rattle.std.proofs.lemmas.Bool.{false≢true}
use Rattle.mpc_exact.specs.Rational.{ℚ}
use Rattle.mpc_linear.specs.declared.integers.RowInt.{RowInt}
use Rattle.mpc_plant.specs.declared.plants.Plant.{Plant}
use Rattle.mpc_rows.specs.declared.trees.Node.{Node}
use Rattle.mpc_rows.specs.declared.trees.Node.TheVariants.{Split, Law, NoMove}
use Rattle.mpc_controller.specs.Parts.{limits_of, row_count, IsSplitRow, IsNodeFor}
use Rattle.mpc_controller.specs.Preorder.{Spells, IsTree}
use Rattle.mpc_controller.specs.PreorderTheorems.{SplitSpells, LeafSpells}
use Rattle.mpc_controller.specs.Certificates.{IsCertOver, cell_rows, AreLawCerts, HaveCerts}
use Rattle.mpc_controller.specs.Bounds.{SplitFits, NodeFits}
use Rattle.mpc_grammar.specs.Reading.{Cursor, LineRule, Grammar, one_line, ReadsItems, no_item, one_more}
use Rattle.mpc_grammar.specs.PlantGrammar.{plain_rule}
use Rattle.mpc_grammar.specs.TreeGrammar.{NodeLine, split_at, leaf_of, no_move, splits, names_law, has_none, NodeOver, split_node, law_node, no_move_node, node_rule, node_behind, node_at, owed_behind, owed, nodes, certs, IsCertLine, node_of}
use Rattle.mpc_grammar.specs.Outcomes.{all_items, just_so_many}

-- ---- what is owed behind one node more
owed_more : {Row : Type 0} (before : List (NodeOver Row)) (x : NodeOver Row) → owed (before ++ x ∷ []) ≡ owed_behind x (owed before)
owed_more before x = fold-append (λ depths node. owed_behind node depths) (0 ∷ []) before (x ∷ [])

-- ---- one node
-- a node's certificates, at a depth
abbrev CertsOf : ℕ → ℕ → ℕ → Node → Type 0
CertsOf n m depth (Split row) = Unit {0}
CertsOf n m depth (Law j cs) = AreLawCerts n m depth cs
CertsOf n m depth (NoMove c) = IsCertOver (cell_rows n depth + m) c

record GoodNode (plant : Plant) (laws depth : ℕ) (node : Node) : Type 0 where
  fits : IsNodeFor plant.n laws node
  bound : NodeFits (limits_of plant) node
  certs_are : CertsOf plant.n (row_count plant) depth node

law_certs : (n m depth : ℕ) (here : Cursor) (cs : List (List (ℕ × ℚ))) (behind : Cursor) → (certs (cell_rows n depth + 1) m).Reads here cs behind → AreLawCerts n m depth cs
law_certs n m depth here cs behind h =
    record {
      one_each = just_so_many (List (ℕ × ℚ)) (λ before. one_line (plain_rule (IsCertLine (cell_rows n depth + 1)))) m here cs behind h;
      each = all_items (List (ℕ × ℚ)) (λ before. one_line (plain_rule (IsCertLine (cell_rows n depth + 1)))) (λ before. nat_lt (length before) m) (IsCertOver (cell_rows n depth + 1)) (λ before b x c more reads. reads.1.1.0.cert_is) here cs behind h.0;
    }

module _ {Row : Type 0} (plant : Plant) (laws : ℕ) (row_of : Row → RowInt) where
  -- what a split's line gives
  abbrev pub SplitsWell : LineRule Row → Type 0
  SplitsWell split = (text : List ℕ) (row : Row) → split.States text row → ¬ split.IsOver row → IsSplitRow plant.n (row_of row) × SplitFits (limits_of plant) (row_of row)

  good_behind : (split : LineRule Row) → SplitsWell split → (depth : ℕ) (text : List ℕ) (line : NodeLine Row) → (node_rule laws split).States text line → ¬ (node_rule laws split).IsOver line
      → (here : Cursor) (x : NodeOver Row) (behind : Cursor) → (node_behind plant depth line).Reads here x behind → GoodNode plant laws depth (node_of row_of x)
  good_behind split well depth text (split_at row) (splits _ states) over here x behind h =
      let w = well text row states over in
      subst (λ y. GoodNode plant laws depth (node_of row_of y)) (sym h.0) (record { fits = w.0; bound = w.1; certs_are = tt })
  good_behind split well depth text (leaf_of j) (names_law _ spelled within) over here x behind (cs, (c, (cert, e))) =
      subst (λ y. GoodNode plant laws depth (node_of row_of y)) (sym e.0) (record { fits = within; bound = tt; certs_are = law_certs plant.n (row_count plant) depth here cs c cert })
  good_behind split well depth text no_move (has_none spelled) over here x behind (cert, (c, (one, e))) =
      subst (λ y. GoodNode plant laws depth (node_of row_of y)) (sym e.0) (record { fits = tt; bound = tt; certs_are = one.1.1.0.cert_is })

  good_node : (split : LineRule Row) → SplitsWell split → (depth : ℕ) (here : Cursor) (x : NodeOver Row) (behind : Cursor) → (node_at plant laws split depth).Reads here x behind → GoodNode plant laws depth (node_of row_of x)
  good_node split well depth here x behind (line, (b, (l, h))) = good_behind split well depth l.0 line l.1.1.0 l.1.1.1 b x behind h

-- ---- all nodes
-- what is read so far spells trees up to those that are owed, and has its certificates
record SoFar (n m : ℕ) (read : List Node) (depths : List ℕ) : Type 0 where
  spelled : Spells 1 read (length depths)
  certified : (tail : List Node) → HaveCerts n m depths tail → HaveCerts n m (0 ∷ []) (read ++ tail)

module _ (spells_split : SplitSpells) (spells_leaf : LeafSpells) {Row : Type 0} (row_of : Row → RowInt) (n m : ℕ) where
  -- one node more, where it is owed at a depth
  step : (read : List Node) (x : NodeOver Row) (depth : ℕ) (depths : List ℕ) → SoFar n m read (depth ∷ depths) → CertsOf n m depth (node_of row_of x) → SoFar n m (read ++ node_of row_of x ∷ []) (owed_behind x (depth ∷ depths))
  step read (split_node row) depth depths before cert =
      record {
        spelled = spells_split 1 read (length depths) (row_of row) before.spelled;
        certified = λ tail h. subst (HaveCerts n m (0 ∷ [])) (sym (append_assoc read (Split (row_of row) ∷ []) tail)) (before.certified (Split (row_of row) ∷ tail) h);
      }
  step read (law_node j cs) depth depths before cert =
      record {
        spelled = spells_leaf 1 read (length depths) (Law j cs) tt before.spelled;
        certified = λ tail h. subst (HaveCerts n m (0 ∷ [])) (sym (append_assoc read (Law j cs ∷ []) tail)) (before.certified (Law j cs ∷ tail) (cert, h));
      }
  step read (no_move_node c) depth depths before cert =
      record {
        spelled = spells_leaf 1 read (length depths) (NoMove c) tt before.spelled;
        certified = λ tail h. subst (HaveCerts n m (0 ∷ [])) (sym (append_assoc read (NoMove c ∷ []) tail)) (before.certified (NoMove c ∷ tail) (cert, h));
      }

  step_at : (read : List Node) (x : NodeOver Row) (depths : List ℕ) → IsTrue (is_some (slice_get depths 0)) → SoFar n m read depths → CertsOf n m (slice_index_or depths 0 0) (node_of row_of x) → SoFar n m (read ++ node_of row_of x ∷ []) (owed_behind x depths)
  step_at read x [] more before cert = absurd (false≢true more)
  step_at read x (depth ∷ depths) more before cert = step read x depth depths before cert

  one_more_read : (before : List (NodeOver Row)) (x : NodeOver Row) → IsTrue (is_some (slice_get (owed before) 0)) → SoFar n m (map (node_of row_of) before) (owed before) → CertsOf n m (slice_index_or (owed before) 0 0) (node_of row_of x)
      → SoFar n m (map (node_of row_of) (before ++ x ∷ [])) (owed (before ++ x ∷ []))
  one_more_read before x more h cert =
      subst (λ ds. SoFar n m (map (node_of row_of) (before ++ x ∷ [])) ds) (sym (owed_more before x))
      (subst (λ ns. SoFar n m ns (owed_behind x (owed before))) (sym (map-append (node_of row_of) before (x ∷ []))) (step_at (map (node_of row_of) before) x (owed before) more h cert))

  -- none is owed
  whole : (read : List Node) (depths : List ℕ) → is_some (slice_get depths 0) ≡ false → SoFar n m read depths → IsTree read × HaveCerts n m (0 ∷ []) read
  whole read [] none h = (h.spelled, subst (HaveCerts n m (0 ∷ [])) (append-nil read) (h.certified [] tt))
  whole read (depth ∷ depths) none h = absurd (false≢true (sym none))

-- the nodes of a controller's tree
pub record GoodTree (plant : Plant) (laws : ℕ) (read : List Node) : Type 0 where
  pub nodes_fit : All (IsNodeFor plant.n laws) read
  pub bounds : All (NodeFits (limits_of plant)) read
  pub complete : IsTree read
  pub certs_fit : HaveCerts plant.n (row_count plant) (0 ∷ []) read

module _ (spells_split : SplitSpells) (spells_leaf : LeafSpells) {Row : Type 0} (plant : Plant) (laws : ℕ) (row_of : Row → RowInt) (split : List (NodeOver Row) → LineRule Row) (well : (before : List (NodeOver Row)) → SplitsWell plant laws row_of (split before)) where
  item : List (NodeOver Row) → Grammar (NodeOver Row)
  item before = node_at plant laws (split before) (slice_index_or (owed before) 0 0)

  so_far : (here : Cursor) (read : List (NodeOver Row)) (behind : Cursor) → ReadsItems (NodeOver Row) (λ before. node_at plant laws (split before) (slice_index_or (owed before) 0 0)) (λ before. is_some (slice_get (owed before) 0)) here read behind
      → SoFar plant.n (row_count plant) (map (node_of row_of) read) (owed read)
  so_far here [] behind no_item = record { spelled = refl; certified = λ tail h. h }
  so_far here _ behind (one_more items between x _ before more reads) =
      one_more_read spells_split spells_leaf row_of plant.n (row_count plant) items x more (so_far here items between before) (good_node plant laws row_of (split items) (well items) (slice_index_or (owed items) 0 0) between x behind reads).certs_are

  pub good_tree : (here : Cursor) (read : List (NodeOver Row)) (behind : Cursor) → (nodes plant laws split).Reads here read behind → GoodTree plant laws (map (node_of row_of) read)
  good_tree here read behind h =
      let all = whole spells_split spells_leaf row_of plant.n (row_count plant) (map (node_of row_of) read) (owed read) h.1 (so_far here read behind h.0) in
      record {
        nodes_fit = All-map (IsNodeFor plant.n laws) (node_of row_of) read (all_items (NodeOver Row) (λ before. node_at plant laws (split before) (slice_index_or (owed before) 0 0)) (λ before. is_some (slice_get (owed before) 0)) (λ x. IsNodeFor plant.n laws (node_of row_of x)) (λ before b x c more reads. (good_node plant laws row_of (split before) (well before) (slice_index_or (owed before) 0 0) b x c reads).fits) here read behind h.0);
        bounds = All-map (NodeFits (limits_of plant)) (node_of row_of) read (all_items (NodeOver Row) (λ before. node_at plant laws (split before) (slice_index_or (owed before) 0 0)) (λ before. is_some (slice_get (owed before) 0)) (λ x. NodeFits (limits_of plant) (node_of row_of x)) (λ before b x c more reads. (good_node plant laws row_of (split before) (well before) (slice_index_or (owed before) 0 0) b x c reads).bound) here read behind h.0);
        complete = all.0;
        certs_fit = all.1;
      }

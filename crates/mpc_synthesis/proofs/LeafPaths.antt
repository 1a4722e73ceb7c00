-- Each leaf of a tree of cells is reached by a path of the nodes, whose rows are those of the leaf's cell.
use Rattle.std.proofs.Common.{◌≡◌, ℕ, zero, suc, ◌+◌, ◌-◌, ◌<◌, ◌≤◌, ◌⊎◌, inl, inr, List, [], ◌∷◌, ◌++◌, length, get_or, take, drop, Some, refl, sym, ◌∙◌, ap, subst, arith, append_assoc}
use Rattle.std.specs.Prelude.{slice_get, slice_range}
use Rattle.std.proofs.Math.Seq.{drop-append_seam, take-append_seam, get_or-append_seam}
use Rattle.std.proofs.lemmas.Bool.{cases_lt}
use Rattle.std.proofs.lemmas.List.{append-nil, length-append, get_or_append_left, get_or-append_right}
use Rattle.std.proofs.lemmas.Option.{slice_get-get_or, get_or_from_slice_get, slice_get_within}
use Rattle.mpc_linear.specs.declared.integers.RowInt.{RowInt}
use Rattle.mpc_rows.specs.declared.trees.Node.{Node}
use Rattle.mpc_rows.specs.declared.trees.Node.TheVariants.{Split, Law, NoMove}
use Rattle.mpc_controller.specs.Preorder.{IsTree, IsNoSide}
use Rattle.mpc_controller.specs.PreorderTheorems.{JoinedSpell}
use Rattle.mpc_controller.specs.Walk.{IsLeaf}
use Rattle.mpc_tree.specs.Trees.{Cell, whole_box, yes_side, no_side, IsTreeWhere, leaf, split}
use Rattle.mpc_controller.specs.Paths.{PathTo, root}
use Rattle.mpc_controller.specs.Paths.{yes_side as to_yes, no_side as to_no}

abbrev no_node : Node
no_node = NoMove []

-- ---- nodes that stand between others
module _ (nodes before behind : List Node) (node : Node) (is : nodes ≡ before ++ node ∷ behind) where
  size_behind : length nodes ≡ length before + (length behind + 1)
  size_behind = ap length is ∙ length-append before (node ∷ behind) ∙ (omega arith)

  node_there : slice_get nodes (length before) ≡ Some node
  node_there =
      let inside : length before < length nodes = let size = size_behind in omega arith in
      slice_get-get_or nodes (length before) node inside ∙ ap Some (ap (λ xs. get_or xs (length before) node) is ∙ get_or-append_seam before node behind node)

-- the nodes of a part that stands between two others
part_there : (nodes before part behind : List Node) → nodes ≡ before ++ (part ++ behind) → slice_range nodes (length before) (length before + length part) ≡ part
part_there nodes before part behind is =
    let count : length before + length part - length before ≡ length part = omega arith in
    (λ i. take (count i) (drop (length before) (is i))) ∙ ap (take (length part)) (drop-append_seam before (part ++ behind)) ∙ take-append_seam part behind

module _ (join : JoinedSpell) (splits : Cell → ℕ → RowInt → Type 0) (ends : Cell → Node → Type 0) (leaves : (cell : Cell) (node : Node) → ends cell node → IsLeaf node) where
  leaf_spells : (node : Node) → IsLeaf node → IsTree (node ∷ [])
  leaf_spells (Split row) h = absurd h
  leaf_spells (Law law certs) h = refl
  leaf_spells (NoMove cert) h = refl

  spells_tree : (cell : Cell) (tree : List Node) → IsTreeWhere splits ends cell tree → IsTree tree
  spells_tree cell _ (leaf _ node e) = leaf_spells node (leaves cell node e)
  spells_tree cell _ (split _ place row side other d y n) = join 1 1 side other (spells_tree (yes_side cell place row) side y) (spells_tree (no_side cell place row) other n)

  some_nodes : (cell : Cell) (tree : List Node) → IsTreeWhere splits ends cell tree → 0 < length tree
  some_nodes cell _ (leaf _ node e) = omega arith
  some_nodes cell _ (split _ place row side other d y n) = omega arith

  -- ---- a leaf and its cell
  module _ (nodes : List Node) where
    pub record LeafAt (place : ℕ) (node : Node) : Type 0 where
      pub cell : Cell
      pub leads : PathTo nodes place cell.rows
      pub ends_here : ends cell node

    -- each leaf among so many nodes, which stand from this place on
    abbrev LeavesFrom : ℕ → List Node → Type 0
    LeavesFrom first tree = (k : ℕ) (node : Node) → k < length tree → get_or tree k no_node ≡ node → IsLeaf node → LeafAt (first + k) node

    one_leaf : (cell : Cell) (node : Node) → ends cell node → (first : ℕ) → PathTo nodes first cell.rows → LeavesFrom first (node ∷ [])
    one_leaf cell node e first p zero other h is l =
        let here : first ≡ first + 0 = omega arith in
        subst (λ place. LeafAt place other) here (record { cell = cell; leads = p; ends_here = subst (ends cell) is e })
    one_leaf cell node e first p (suc k) other h is l = absurd (omega arith)

    both_sides : (row : RowInt) (side other : List Node) (first : ℕ) → LeavesFrom (first + 1) side → LeavesFrom (first + 1 + length side) other → LeavesFrom first (Split row ∷ (side ++ other))
    both_sides row side other first one two zero node h is l = absurd (subst IsLeaf (sym is) l)
    both_sides row side other first one two (suc k) node h is l = by (cases_lt k (length side))
      where
        by : (k < length side) ⊎ (length side ≤ k) → LeafAt (first + suc k) node
        by (inl below) =
            let there : first + 1 + k ≡ first + suc k = omega arith in
            subst (λ place. LeafAt place node) there (one k node below (sym (get_or_append_left side other no_node k below) ∙ is) l)
        by (inr above) =
            let there : first + 1 + length side + (k - length side) ≡ first + suc k = omega arith in
            subst (λ place. LeafAt place node) there
            (two (k - length side) node (let size = length-append side other in omega arith) (sym (get_or-append_right side other (length side) k no_node refl above) ∙ is) l)

    -- ---- the sides of a split that stands behind some nodes
    module _ (before side other behind : List Node) (row : RowInt) (cell : Cell) (place : ℕ) (is : nodes ≡ before ++ ((Split row ∷ (side ++ other)) ++ behind)) (leads : PathTo nodes (length before) cell.rows) where
      before_yes : List Node
      before_yes = before ++ Split row ∷ []

      before_no : List Node
      before_no = before_yes ++ side

      size_yes : length before_yes ≡ length before + 1
      unfolding before_yes
      size_yes = length-append before (Split row ∷ [])

      size_no : length before_no ≡ length before + 1 + length side
      unfolding before_no
      size_no = length-append before_yes side ∙ ap (λ n. n + length side) size_yes

      yes_joined : nodes ≡ before_yes ++ (side ++ (other ++ behind))
      unfolding before_yes
      yes_joined = is ∙ ap (λ xs. before ++ Split row ∷ xs) (append_assoc side other behind) ∙ sym (append_assoc before (Split row ∷ []) (side ++ (other ++ behind)))

      no_joined : nodes ≡ before_no ++ (other ++ behind)
      unfolding before_no
      no_joined = yes_joined ∙ sym (append_assoc before_yes side (other ++ behind))

      split_there : slice_get nodes (length before) ≡ Some (Split row)
      split_there = node_there nodes before ((side ++ other) ++ behind) (Split row) is

      leads_yes : PathTo nodes (length before_yes) (yes_side cell place row).rows
      leads_yes = subst (λ k. PathTo nodes k (yes_side cell place row).rows) (sym size_yes) (to_yes (length before) row cell.rows leads split_there)

      no_begins : IsTree side → 0 < length other → IsNoSide nodes (length before) (length before_no)
      no_begins tree some =
          let whole : length nodes ≡ length before_no + length (other ++ behind) = ap length no_joined ∙ length-append before_no (other ++ behind) in
          let part : slice_range nodes (length before_yes) (length before_yes + length side) ≡ side = part_there nodes before_yes side (other ++ behind) yes_joined in
          record {
            after = omega (arith, size_no);
            before_end = omega (arith, whole, length-append other behind, some);
            yes_side = subst IsTree (sym ((λ i. slice_range nodes (sym size_yes i) ((size_no ∙ ap (λ n. n + length side) (sym size_yes)) i)) ∙ part)) tree;
          }

      leads_no : IsTree side → 0 < length other → PathTo nodes (length before_no) (no_side cell place row).rows
      leads_no tree some = to_no (length before) (length before_no) row cell.rows leads split_there (no_begins tree some)

      sides : LeavesFrom (length before_yes) side → LeavesFrom (length before_no) other → LeavesFrom (length before) (Split row ∷ (side ++ other))
      sides one two = both_sides row side other (length before) (subst (λ k. LeavesFrom k side) size_yes one) (subst (λ k. LeavesFrom k other) size_no two)

    -- ---- the whole tree
    leaves_from : (cell : Cell) (tree : List Node) → IsTreeWhere splits ends cell tree → (before behind : List Node) → nodes ≡ before ++ (tree ++ behind) → PathTo nodes (length before) cell.rows → LeavesFrom (length before) tree
    leaves_from cell _ (leaf _ node e) before behind is p = one_leaf cell node e (length before) p
    leaves_from cell _ (split _ place row side other d y n) before behind is p =
        let tree : IsTree side = spells_tree (yes_side cell place row) side y in
        sides before side other behind row cell place is p
        (leaves_from (yes_side cell place row) side y (before_yes before side other behind row cell place is p) (other ++ behind) (yes_joined before side other behind row cell place is p) (leads_yes before side other behind row cell place is p))
        (leaves_from (no_side cell place row) other n (before_no before side other behind row cell place is p) behind (no_joined before side other behind row cell place is p) (leads_no before side other behind row cell place is p tree (some_nodes (no_side cell place row) other n)))

    pub leaf_at : IsTreeWhere splits ends whole_box nodes → (place : ℕ) (node : Node) → slice_get nodes place ≡ Some node → IsLeaf node → LeafAt place node
    leaf_at tree place node at l =
        let from_zero : 0 + place ≡ place = omega arith in
        subst (λ k. LeafAt k node) from_zero (leaves_from whole_box nodes tree [] [] (sym (append-nil nodes)) root place node (slice_get_within nodes place node at) (get_or_from_slice_get nodes place node no_node at) l)

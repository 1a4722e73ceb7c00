-- The walk through the tree of a table ends, at each point of the box, in a leaf whose cell has the point; so its reply is right.
use Rattle.std.proofs.Common.{◌≡◌, ℕ, zero, suc, ◌+◌, ◌-◌, ◌<◌, ◌≤◌, List, [], ◌∷◌, ◌++◌, length, get_or, take, drop, map, negsuc, refl, sym, ◌∙◌, ap, subst, arith, ⊎_elim, Some, append_assoc}
use Rattle.std.specs.Prelude.{slice_get, Contains}
use Rattle.std.proofs.Math.Seq.{drop-append_seam}
use Rattle.std.proofs.lemmas.List.{append-nil, get_or-drop, drop-drop, length-drop, length-take-le, take-append-drop}
use Rattle.std.proofs.lemmas.List.Elements.{All-nil, All-cons, All-append}
use Rattle.std.proofs.lemmas.Option.{get_or_from_slice_get, slice_get_within, slice_get-get_or, same_Some}
use Rattle.mpc_exact.specs.Rational.{ℚ, int, ◌*ℚ◌, ◌≤ℚ◌, ◌<ℚ◌, neg_ℚ}
use Rattle.mpc_exact.proofs.RationalOrder.{le_or_lt}
use Rattle.mpc_exact.proofs.Linear.{linear_lt, claims, none, lt}
use Rattle.mpc_space.specs.Vector.{dot}
use Rattle.mpc_space.proofs.Vector.{dot-scale}
use Rattle.mpc_space.specs.Definite.{IsDefinite}
use Rattle.mpc_linear.specs.declared.integers.RowInt.{RowInt}
use Rattle.mpc_plant.specs.Reply.{Reply, move, IsRight}
use Rattle.mpc_rows.specs.declared.programs.Qp.{Qp}
use Rattle.mpc_rows.specs.declared.laws.Law.{Law as LawOfSet}
use Rattle.mpc_rows.specs.declared.trees.Node.{Node}
use Rattle.mpc_rows.specs.declared.trees.Node.TheVariants.{Split, Law, NoMove}
use Rattle.mpc_rows.specs.LinearSystem.{MeetsRow}
use Rattle.mpc_rows.specs.ActiveSets.{IsInBox, IsFeasible}
use Rattle.mpc_rows.specs.Laws.{IsInRegion}
use Rattle.mpc_rows.specs.Candidates.{IsTable}
use Rattle.mpc_rows.specs.LawRows.{whole_row, broken_row}
use Rattle.mpc_condense.specs.Condensed.{IsCondensed}
use Rattle.mpc_condense.specs.BestReplies.{LawIsRight, InfeasibleIsRight}
use Rattle.mpc_cover.specs.CoverTheorems.{TablesCover}
use Rattle.mpc_controller.specs.Parts.{Parts}
use Rattle.mpc_controller.specs.Preorder.{Spells, IsNoSide}
use Rattle.mpc_controller.specs.PreorderTheorems.{JoinedSpell}
use Rattle.mpc_controller.specs.Walk.{Satisfies, Reaches, root, yes_side as to_yes, no_side as to_no, IsLeaf, EndsAt}
use Rattle.mpc_controller.specs.Replies.{first_move, IsLawNumbered, RepliesAt, by_law, by_no_law}
use Rattle.mpc_synthesis.specs.RightReplies.{RightReplies}
use Rattle.mpc_tree.specs.Cells.{IsInCell, NoneMeetsBefore}
use Rattle.mpc_tree.specs.Trees.{Cell, whole_box, yes_side, no_side, IsTreeWhere, leaf, split, Divides, IsOfLaw, IsLeafOf, IsTreeOf}

-- ---- numbers and places
broken_by : (t : List ℚ) (row : RowInt) → ¬ (dot (map int row.a) t ≤ℚ int row.b) → MeetsRow t (broken_row row)
broken_by t row h = subst (λ x. x <ℚ neg_ℚ (int row.b)) (sym (dot-scale (int (negsuc 0)) (map int row.a) t)) (turned_over (dot (map int row.a) t) (int row.b) (⊎_elim (λ l. absurd (h l)) (λ l. l) (le_or_lt (dot (map int row.a) t) (int row.b))))
  where
    turned_over : (x y : ℚ) → y <ℚ x → (int (negsuc 0) *ℚ x) <ℚ neg_ℚ y
    turned_over x y l = linear_lt (x ∷ y ∷ []) (lt l none) (search claims depth 40) tt

-- ---- lists of nodes that spell a tree
-- of two such texts at the head of one list, neither is longer
head_same : (x y : Node) (xs ys : List Node) → x ∷ xs ≡ y ∷ ys → x ≡ y
head_same x y xs ys e = ap (λ l. get_or l 0 x) e

rest_same : (x y : Node) (xs ys : List Node) → x ∷ xs ≡ y ∷ ys → xs ≡ ys
rest_same x y xs ys e = ap (drop 1) e

same_length : (k : ℕ) (xs ys us vs : List Node) → Spells k xs 0 → Spells k ys 0 → xs ++ us ≡ ys ++ vs → length xs ≡ length ys
same_length zero [] [] us vs a b e = refl
same_length zero [] (y ∷ ys) us vs a b e = absurd b
same_length zero (x ∷ xs) ys us vs a b e = absurd a
same_length (suc k) [] ys us vs a b e = absurd (omega (arith, a))
same_length (suc k) (x ∷ xs) [] us vs a b e = absurd (omega (arith, b))
same_length (suc k) (Split row ∷ xs) (y ∷ ys) us vs a b e =
    ap suc (same_length (suc (suc k)) xs ys us vs a (subst (λ n. Spells (suc k) (n ∷ ys) 0) (sym (head_same (Split row) y (xs ++ us) (ys ++ vs) e)) b) (rest_same (Split row) y (xs ++ us) (ys ++ vs) e))
same_length (suc k) (Law law certs ∷ xs) (y ∷ ys) us vs a b e =
    ap suc (same_length k xs ys us vs a (subst (λ n. Spells (suc k) (n ∷ ys) 0) (sym (head_same (Law law certs) y (xs ++ us) (ys ++ vs) e)) b) (rest_same (Law law certs) y (xs ++ us) (ys ++ vs) e))
same_length (suc k) (NoMove cert ∷ xs) (y ∷ ys) us vs a b e =
    ap suc (same_length k xs ys us vs a (subst (λ n. Spells (suc k) (n ∷ ys) 0) (sym (head_same (NoMove cert) y (xs ++ us) (ys ++ vs) e)) b) (rest_same (NoMove cert) y (xs ++ us) (ys ++ vs) e))

-- ---- the nodes of a tree of cells spell one tree
module _ (join : JoinedSpell) (splits : Cell → ℕ → RowInt → Type 0) (ends : Cell → Node → Type 0) (leaves : (cell : Cell) (node : Node) → ends cell node → IsLeaf node) where
  one_leaf : (node : Node) → IsLeaf node → Spells 1 (node ∷ []) 0
  one_leaf (Split row) h = absurd h
  one_leaf (Law law certs) h = refl
  one_leaf (NoMove cert) h = refl

  pub spells_tree : (cell : Cell) (nodes : List Node) → IsTreeWhere splits ends cell nodes → Spells 1 nodes 0
  spells_tree cell _ (leaf _ node e) = one_leaf node (leaves cell node e)
  spells_tree cell _ (split _ place row side other d y n) = join 1 1 side other (spells_tree (yes_side cell place row) side y) (spells_tree (no_side cell place row) other n)

  -- ---- the walk keeps to the cells of its point
  -- the nodes from a place on begin with the tree of a cell that has the point
  record IsAt (qp : Qp) (nodes : List Node) (t : List ℚ) (place : ℕ) : Type 0 where
    tree : List Node
    behind : List Node
    joined : drop place nodes ≡ tree ++ behind
    cell : Cell
    is_tree : IsTreeWhere splits ends cell tree
    in_cell : IsInCell qp cell.rows t

  at_root : (qp : Qp) (nodes : List Node) (t : List ℚ) → IsTreeWhere splits ends whole_box nodes → IsInBox qp.counts t → IsAt qp nodes t 0
  at_root qp nodes t is b = record { tree = nodes; behind = []; joined = sym (append-nil nodes); cell = whole_box; is_tree = is; in_cell = record { in_box = b; meets = All-nil (MeetsRow t) } }

  -- the node at the place is the first of that tree
  head_is : (nodes rest : List Node) (place : ℕ) (node first : Node) → slice_get nodes place ≡ Some node → drop place nodes ≡ first ∷ rest → first ≡ node
  head_is nodes rest place node first got joined =
      ap (λ l. get_or l 0 node) (sym joined) ∙ get_or-drop place nodes 0 node ∙ ap (λ k. get_or nodes k node) (omega arith) ∙ get_or_from_slice_get nodes place node node got

  record SplitAt (cell : Cell) (row : RowInt) (tree : List Node) : Type 0 where
    place : ℕ
    first : List Node
    second : List Node
    joined : tree ≡ Split row ∷ (first ++ second)
    divides : splits cell place row
    first_tree : IsTreeWhere splits ends (yes_side cell place row) first
    second_tree : IsTreeWhere splits ends (no_side cell place row) second

  no_leaf : (row : RowInt) (node : Node) → IsLeaf node → node ≡ Split row → ⊥
  no_leaf row node h e = subst IsLeaf e h

  row_in : RowInt → Node → RowInt
  row_in other (Split row) = row
  row_in other (Law law certs) = other
  row_in other (NoMove cert) = other

  same_split : (row other : RowInt) → Split row ≡ Split other → row ≡ other
  unfolding row_in
  same_split row other e = ap (row_in row) e

  split_at : (cell : Cell) (tree : List Node) (row : RowInt) → IsTreeWhere splits ends cell tree → ((rest : List Node) (first : Node) → tree ≡ first ∷ rest → first ≡ Split row) → SplitAt cell row tree
  split_at cell _ row (leaf _ node e) is = absurd (no_leaf row node (leaves cell node e) (is [] node refl))
  split_at cell _ row (split _ place given one two d y n) is =
      let e : given ≡ row = same_split given row (is (one ++ two) (Split given) refl) in
      record {
        place = place;
        first = one;
        second = two;
        joined = λ i. Split (e i) ∷ (one ++ two);
        divides = subst (splits cell place) e d;
        first_tree = subst (λ r. IsTreeWhere splits ends (yes_side cell place r) one) e y;
        second_tree = subst (λ r. IsTreeWhere splits ends (no_side cell place r) two) e n;
      }

  leaf_at : (cell : Cell) (tree : List Node) (node : Node) → IsLeaf node → IsTreeWhere splits ends cell tree → ((rest : List Node) (first : Node) → tree ≡ first ∷ rest → first ≡ node) → ends cell node
  leaf_at cell _ node h (leaf _ other e) is = subst (ends cell) (is [] other refl) e
  leaf_at cell _ node h (split _ place row one two d y n) is = absurd (no_leaf row node h (sym (is (one ++ two) (Split row) refl)))

  -- ---- steps of the walk
  module _ (qp : Qp) (nodes : List Node) (t : List ℚ) (place : ℕ) (row : RowInt) (got : slice_get nodes place ≡ Some (Split row)) (a : IsAt qp nodes t place) where
    here : SplitAt a.cell row a.tree
    here = split_at a.cell a.tree row a.is_tree (λ rest first e. head_is nodes (rest ++ a.behind) place (Split row) first got (a.joined ∙ ap (λ l. l ++ a.behind) e))

    behind_split : drop (place + 1) nodes ≡ here.first ++ (here.second ++ a.behind)
    behind_split = sym (drop-drop 1 place nodes) ∙ ap (drop 1) (a.joined ∙ ap (λ l. l ++ a.behind) here.joined) ∙ append_assoc here.first here.second a.behind

    in_yes : Satisfies row t → IsAt qp nodes t (place + 1)
    in_yes h = record {
      tree = here.first;
      behind = here.second ++ a.behind;
      joined = behind_split;
      cell = yes_side a.cell here.place row;
      is_tree = here.first_tree;
      in_cell = record { in_box = a.in_cell.in_box; meets = All-append (MeetsRow t) a.cell.rows (whole_row row ∷ []) a.in_cell.meets (All-cons (MeetsRow t) (whole_row row) [] h.at_most (All-nil (MeetsRow t))) };
    }

    yes_length : (next : ℕ) → IsNoSide nodes place next → next ≡ place + 1 + length here.first
    yes_length next s =
        let k = next - (place + 1) in
        let rest = drop (place + 1) nodes in
        let long : k ≤ length rest = omega (arith, s.after, s.before_end, length-drop (place + 1) nodes) in
        let same : length (take k rest) ≡ length here.first = same_length 1 (take k rest) here.first (drop k rest) (here.second ++ a.behind) s.yes_side (spells_tree (yes_side a.cell here.place row) here.first here.first_tree) (take-append-drop k rest ∙ behind_split) in
        omega (arith, s.after, length-take-le k rest long, same)

    fails : ¬ Satisfies row t → MeetsRow t (broken_row row)
    fails h = broken_by t row (λ m. h (record { at_most = m }))

    in_no : (next : ℕ) → ¬ Satisfies row t → IsNoSide nodes place next → IsAt qp nodes t next
    in_no next h s = record {
      tree = here.second;
      behind = a.behind;
      joined = ap (λ k. drop k nodes) (yes_length next s) ∙ sym (drop-drop (length here.first) (place + 1) nodes) ∙ ap (drop (length here.first)) behind_split ∙ drop-append_seam here.first (here.second ++ a.behind);
      cell = no_side a.cell here.place row;
      is_tree = here.second_tree;
      in_cell = record { in_box = a.in_cell.in_box; meets = All-append (MeetsRow t) a.cell.rows (broken_row row ∷ []) a.in_cell.meets (All-cons (MeetsRow t) (broken_row row) [] (fails h) (All-nil (MeetsRow t))) };
    }

  reaches : (qp : Qp) (nodes : List Node) (t : List ℚ) → IsTreeWhere splits ends whole_box nodes → IsInBox qp.counts t → (place : ℕ) → Reaches nodes t place → IsAt qp nodes t place
  reaches qp nodes t is b _ root = at_root qp nodes t is b
  reaches qp nodes t is b _ (to_yes place row r got h) = in_yes qp nodes t place row got (reaches qp nodes t is b place r) h
  reaches qp nodes t is b _ (to_no place next row r got h s) = in_no qp nodes t place row got (reaches qp nodes t is b place r) next h s

  -- the leaf at which the walk ends, and its cell
  pub record EndsIn (qp : Qp) (t : List ℚ) (node : Node) : Type 0 where
    pub cell : Cell
    pub in_cell : IsInCell qp cell.rows t
    pub ends_here : ends cell node

  pub walk_ends : (qp : Qp) (nodes : List Node) (t : List ℚ) → IsTreeWhere splits ends whole_box nodes → IsInBox qp.counts t → (place : ℕ) (node : Node) → EndsAt nodes t place node → EndsIn qp t node
  walk_ends qp nodes t is b place node e =
      let a = reaches qp nodes t is b place e.reached in
      record {
        cell = a.cell;
        in_cell = a.in_cell;
        ends_here = leaf_at a.cell a.tree node e.is_leaf a.is_tree (λ rest first j. head_is nodes (rest ++ a.behind) place node first e.node_at (a.joined ∙ ap (λ l. l ++ a.behind) j));
      }

-- ---- replies
pub table_leaf : (qp : Qp) (laws : List LawOfSet) (cell : Cell) (node : Node) → IsLeafOf qp laws cell node → IsLeaf node
table_leaf qp laws cell (Split row) h = h
table_leaf qp laws cell (Law law certs) h = tt
table_leaf qp laws cell (NoMove cert) h = tt

pub contains_at : (laws : List LawOfSet) (place : ℕ) (law : LawOfSet) → slice_get laws place ≡ Some law → Contains laws law
contains_at laws place law at = (place, slice_get_within laws place law at, get_or_from_slice_get laws place law law at)

place_in_list : (laws : List LawOfSet) (law : LawOfSet) → Contains laws law → (place : ℕ) × (place < length laws) × (slice_get laws place ≡ Some law)
place_in_list laws law c = (c.0, c.1, slice_get-get_or laws c.0 law c.1 ∙ ap Some c.2)

module _ (join : JoinedSpell) (law_is_right : LawIsRight) (infeasible_is_right : InfeasibleIsRight) (cover : TablesCover) (qp : Qp) (parts : Parts) (t : List ℚ) (condensed : IsCondensed qp parts.plant) (definite : IsDefinite qp.h.rows) (table : IsTable qp parts.laws) (is : IsTreeOf qp parts.laws whole_box parts.tree) (box : IsInBox qp.counts t) where
  of_law : (cell : Cell) (number : ℕ) (law : LawOfSet) → IsInCell qp cell.rows t → IsOfLaw qp parts.laws cell number → IsLawNumbered parts.laws number law → IsRight parts.plant t (move (first_move parts.plant.p law t))
  of_law cell number law within o named =
      let at : slice_get parts.laws o.place ≡ Some law = ap (slice_get parts.laws) (omega (arith, o.number_is)) ∙ named in
      let same : o.law ≡ law = same_Some o.law law (sym o.first.is ∙ at) in
      let has : Contains parts.laws law = contains_at parts.laws o.place law at in
      law_is_right parts.plant qp law t condensed definite (table.are_laws law has).verdict.2 (subst (λ l. IsInRegion qp l t) same (o.lies_in.each t within))

  -- where no region meets the cell, nothing satisfies the rows at its points, since the regions cover those where something does
  none_feasible : (cell : Cell) → IsInCell qp cell.rows t → NoneMeetsBefore qp parts.laws cell.rows (length parts.laws) → (z : List ℚ) → IsFeasible qp t z → ⊥
  none_feasible cell within empty z f =
      let c = cover qp parts.laws definite table t z f in
      let at = place_in_list parts.laws c.0 c.1 in
      empty at.0 c.0 at.1 at.2 (record { state = t; in_cell = within; in_region = c.2 })

  pub reply_right : (reply : Reply) → RepliesAt parts t reply → IsRight parts.plant t reply
  reply_right _ (by_law place number certs law e named) =
      let w = walk_ends join (Divides qp parts.laws) (IsLeafOf qp parts.laws) (table_leaf qp parts.laws) qp parts.tree t is box place (Law number certs) e in
      of_law w.cell number law w.in_cell w.ends_here named
  reply_right _ (by_no_law place cert e) =
      let w = walk_ends join (Divides qp parts.laws) (IsLeafOf qp parts.laws) (table_leaf qp parts.laws) qp parts.tree t is box place (NoMove cert) e in
      infeasible_is_right parts.plant qp t condensed box (λ z f. none_feasible w.cell w.in_cell w.ends_here z f)

pub replies_right : JoinedSpell → LawIsRight → InfeasibleIsRight → TablesCover → RightReplies
replies_right join of_law of_none cover qp parts t reply condensed definite table is box r = reply_right join of_law of_none cover qp parts t condensed definite table is box reply r

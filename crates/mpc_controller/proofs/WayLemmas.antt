-- The way to a node, step by step in preorder, and the path that it stands for.
use Rattle.std.proofs.Common.{◌≡◌, ℕ, zero, suc, ◌+◌, ◌-◌, ◌<◌, ◌≤◌, ◌⊎◌, inl, inr, Bool, true, false, List, [], ◌∷◌, ◌++◌, length, take, drop, Some, refl, sym, ◌∙◌, ap, subst, arith, All, take-add}
use Rattle.std.specs.Prelude.{slice_get, slice_range}
use Rattle.std.proofs.lemmas.Bool.{cases_lt}
use Rattle.std.proofs.lemmas.List.{same_from_push, length-append, length-drop, drop-drop, map-append, take-append-drop}
use Rattle.std.proofs.lemmas.List.Elements.{All-nil, All-cons, All-append}
use Rattle.std.proofs.lemmas.Option.{get_or_from_slice_get}
use Rattle.mpc_linear.specs.declared.integers.RowInt.{RowInt}
use Rattle.mpc_rows.specs.declared.systems.Row.{Row}
use Rattle.mpc_rows.specs.declared.trees.Node.{Node}
use Rattle.mpc_rows.specs.declared.trees.Node.TheVariants.{Split, Law, NoMove}
use Rattle.mpc_rows.specs.LawRows.{whole_row, broken_row}
use Rattle.mpc_controller.specs.Preorder.{Spells, IsTree, IsNoSide}
use Rattle.mpc_controller.specs.PreorderTheorems.{JoinedSpell}
use Rattle.mpc_controller.specs.Walk.{IsLeaf}
use Rattle.mpc_controller.specs.Paths.{PathTo, root as path_root, yes_side as path_yes, no_side as path_no}
use Rattle.mpc_controller.specs.declared.ways.Turn.{Turn}
use Rattle.mpc_controller.specs.Ways.{side_row, split_row, turn_row, way_rows, turn_at, IsTurn, IsWay, root, yes_side, no_side, EndsTree}
use Rattle.mpc_controller.proofs.PathLemmas.{spells_parts, range_at, nothing_between, no_tree}

module _ (nodes : List Node) where
  -- ---- the path of a way
  row_there : (place : ℕ) (row : RowInt) (side : Bool) → slice_get nodes place ≡ Some (Split row) → turn_row nodes (turn_at place side) ≡ side_row side row
  row_there place row side at = ap (λ node. side_row side (split_row node)) (get_or_from_slice_get nodes place (Split row) (NoMove []) at)

  rows_pushed : (way : List Turn) (turn : Turn) (r : Row) → turn_row nodes turn ≡ r → way_rows nodes (way ++ turn ∷ []) ≡ way_rows nodes way ++ r ∷ []
  rows_pushed way turn r e = map-append (turn_row nodes) way (turn ∷ []) ∙ ap (λ x. way_rows nodes way ++ x ∷ []) e

  pub path_of_way : (k : ℕ) (way : List Turn) → IsWay nodes k way → PathTo nodes k (way_rows nodes way)
  path_of_way _ _ root = path_root
  path_of_way _ _ (yes_side place row way w at) =
      subst (PathTo nodes (place + 1)) (sym (rows_pushed way (turn_at place true) (whole_row row) (row_there place row true at))) (path_yes place row (way_rows nodes way) (path_of_way place way w) at)
  path_of_way _ _ (no_side place next row way w at side) =
      subst (PathTo nodes next) (sym (rows_pushed way (turn_at place false) (broken_row row) (row_there place row false at))) (path_no place next row (way_rows nodes way) (path_of_way place way w) at side)

  one_turn_more : (way : List Turn) (turn : Turn) → All (IsTurn nodes) way → IsTurn nodes turn → All (IsTurn nodes) (way ++ turn ∷ [])
  one_turn_more way turn before here = All-append (IsTurn nodes) way (turn ∷ []) before (All-cons (IsTurn nodes) turn [] here (All-nil (IsTurn nodes)))

  pub turns_of_way : (k : ℕ) (way : List Turn) → IsWay nodes k way → All (IsTurn nodes) way
  turns_of_way _ _ root = All-nil (IsTurn nodes)
  turns_of_way _ _ (yes_side place row way w at) = one_turn_more way (turn_at place true) (turns_of_way place way w) (record { row = row; is_split = at })
  turns_of_way _ _ (no_side place next row way w at side) = one_turn_more way (turn_at place false) (turns_of_way place way w) (record { row = row; is_split = at })

  -- ---- the last turn of a way
  record LastTurn (place : ℕ) (way : List Turn) (turn : Turn) : Type 0 where
    row : RowInt
    leads : IsWay nodes turn.split way
    is_split : slice_get nodes turn.split ≡ Some (Split row)
    side : ((turn.yes ≡ true) × (place ≡ turn.split + 1)) ⊎ ((turn.yes ≡ false) × IsNoSide nodes turn.split place)

  no_turn : (way : List Turn) (turn : Turn) → [] ≡ way ++ turn ∷ [] → ⊥
  no_turn way turn e = absurd (omega (arith, ap length e, length-append way (turn ∷ [])))

  last_turn : (place : ℕ) (all : List Turn) → IsWay nodes place all → (way : List Turn) (turn : Turn) → all ≡ way ++ turn ∷ [] → LastTurn place way turn
  last_turn _ _ root way turn e = absurd (no_turn way turn e)
  last_turn _ _ (yes_side place row before w at) way turn e =
      let same = same_from_push before way (turn_at place true) turn e in
      subst (λ u. LastTurn (place + 1) way u) same.1 (subst (λ v. LastTurn (place + 1) v (turn_at place true)) same.0 (record { row = row; leads = w; is_split = at; side = inl (refl, refl) }))
  last_turn _ _ (no_side place next row before w at side) way turn e =
      let same = same_from_push before way (turn_at place false) turn e in
      subst (λ u. LastTurn next way u) same.1 (subst (λ v. LastTurn next v (turn_at place false)) same.0 (record { row = row; leads = w; is_split = at; side = inr (refl, side) }))

  -- ---- from a node to the next
  pub leaf_ends : (way : List Turn) (place : ℕ) (leaf : Node) → IsWay nodes place way → slice_get nodes place ≡ Some leaf → IsLeaf leaf → EndsTree nodes way (place + 1)
  leaf_ends way place leaf w at is = record {
    place = place;
    leads = w;
    tree = subst IsTree (sym (range_at nodes place place (place + 1) leaf (omega arith) (omega arith) at ∙ (λ i. nothing_between nodes place place (omega arith) i ++ leaf ∷ nothing_between nodes (place + 1) (place + 1) (omega arith) i))) (alone leaf is);
  }
    where
      alone : (node : Node) → IsLeaf node → IsTree (node ∷ [])
      alone (Split row) h = absurd h
      alone (Law law certs) h = refl
      alone (NoMove cert) h = refl

  pub split_goes_on : (way : List Turn) (place : ℕ) (node : Node) → IsWay nodes place way → slice_get nodes place ≡ Some node → ¬ IsLeaf node → IsWay nodes (place + 1) (way ++ turn_at place true ∷ [])
  split_goes_on way place (Split row) w at other = yes_side place row way w at
  split_goes_on way place (Law law certs) w at other = absurd (other tt)
  split_goes_on way place (NoMove cert) w at other = absurd (other tt)

  some_inside : (i j : ℕ) → IsTree (slice_range nodes i j) → i < j
  some_inside i j tree = by (cases_lt i j)
    where
      by : (i < j) ⊎ (j ≤ i) → i < j
      by (inl h) = h
      by (inr h) = absurd (no_tree 0 (subst (λ xs. Spells 1 xs 0) (nothing_between nodes i j h) tree))

  module _ (way : List Turn) (turn : Turn) (all : List Turn) (end : ℕ) (e : all ≡ way ++ turn ∷ []) (ended : EndsTree nodes all end) where
    last : LastTurn ended.place way turn
    last = last_turn ended.place all ended.leads way turn e

    -- behind a yes side its split's no side begins
    pub to_no_side : turn.yes ≡ true → end < length nodes → IsWay nodes end (way ++ turn_at turn.split false ∷ [])
    to_no_side is_yes inside = by last.side
      where
        by : ((turn.yes ≡ true) × (ended.place ≡ turn.split + 1)) ⊎ ((turn.yes ≡ false) × IsNoSide nodes turn.split ended.place) → IsWay nodes end (way ++ turn_at turn.split false ∷ [])
        by (inl y) =
            let below : ended.place < end = some_inside ended.place end ended.tree in
            let at = y.1 in
            no_side turn.split end last.row way last.leads last.is_split (record { after = omega arith; before_end = inside; yes_side = subst (λ k. IsTree (slice_range nodes k end)) y.1 ended.tree })
        by (inr n) = absurd (different (sym is_yes ∙ n.0))
          where
            different : true ≡ false → ⊥
            different q = cc

    -- behind a no side its split's tree is ended
    pub ends_split : JoinedSpell → turn.yes ≡ false → EndsTree nodes way end
    ends_split join is_no = by last.side
      where
        by : ((turn.yes ≡ true) × (ended.place ≡ turn.split + 1)) ⊎ ((turn.yes ≡ false) × IsNoSide nodes turn.split ended.place) → EndsTree nodes way end
        by (inl y) = absurd (different (sym y.0 ∙ is_no))
          where
            different : true ≡ false → ⊥
            different q = cc
        by (inr n) =
            let next = ended.place in
            let side = n.1 in
            let below : next < end = some_inside next end ended.tree in
            let above : turn.split < next = side.after in
            record {
              place = turn.split;
              leads = last.leads;
              tree = subst IsTree (sym (range_at nodes turn.split turn.split end (Split last.row) (omega arith) (omega arith) last.is_split ∙ ap (λ xs. xs ++ Split last.row ∷ slice_range nodes (turn.split + 1) end) (nothing_between nodes turn.split turn.split (omega arith))))
                  (subst (λ xs. Spells 2 xs 0) (sym (joined (turn.split + 1) next end (omega arith) (omega arith))) (join 1 1 (slice_range nodes (turn.split + 1) next) (slice_range nodes next end) side.yes_side ended.tree));
            }
          where
            joined : (i j k : ℕ) → i ≤ j → j ≤ k → slice_range nodes i k ≡ slice_range nodes i j ++ slice_range nodes j k
            joined i j k h l =
                let whole : k - i ≡ (j - i) + (k - j) = omega arith in
                let there : i + (j - i) ≡ j = omega arith in
                ap (λ n. take n (drop i nodes)) whole ∙ take-add (j - i) (k - j) (drop i nodes)
                ∙ ap (λ xs. take (j - i) (drop i nodes) ++ take (k - j) xs) (drop-drop (j - i) i nodes ∙ ap (λ n. drop n nodes) there)

  -- behind the tree of the root there is nothing
  at_start : (place : ℕ) (way : List Turn) → IsWay nodes place way → way ≡ [] → place ≡ 0
  at_start _ _ root e = refl
  at_start _ _ (yes_side place row way w at) e = absurd (no_turn way (turn_at place true) (sym e))
  at_start _ _ (no_side place next row way w at side) e = absurd (no_turn way (turn_at place false) (sym e))

  left_alone : (t a b : ℕ) (xs : List Node) → Spells t xs a → Spells t xs b → a ≡ b
  left_alone zero a b [] h k = sym h ∙ k
  left_alone (suc t) a b [] h k = sym h ∙ k
  left_alone zero a b (x ∷ xs) h k = absurd h
  left_alone (suc t) a b (Split row ∷ xs) h k = left_alone (suc (suc t)) a b xs h k
  left_alone (suc t) a b (Law law certs ∷ xs) h k = left_alone t a b xs h k
  left_alone (suc t) a b (NoMove cert ∷ xs) h k = left_alone t a b xs h k

  none_more : (xs : List Node) → Spells 0 xs 0 → length xs ≡ 0
  none_more [] h = refl
  none_more (x ∷ xs) h = absurd h

  pub all_ended : (way : List Turn) (end : ℕ) → way ≡ [] → IsTree nodes → EndsTree nodes way end → end < length nodes → ⊥
  all_ended way end e tree ended inside =
      let start : ended.place ≡ 0 = at_start ended.place way ended.leads e in
      let whole : end - 0 ≡ end = omega arith in
      let front : Spells 1 (take end nodes) 0 = subst (λ k. Spells 1 (take k nodes) 0) whole (subst (λ k. IsTree (slice_range nodes k end)) start ended.tree) in
      let parts = spells_parts 1 (take end nodes) (drop end nodes) 0 (subst IsTree (sym (take-append-drop end nodes)) tree) in
      let none : parts.0 ≡ 0 = left_alone 1 parts.0 0 (take end nodes) parts.1 front in
      let rest : length (drop end nodes) ≡ 0 = none_more (drop end nodes) (subst (λ m. Spells m (drop end nodes) 0) none parts.2) in
      absurd (omega (arith, rest, length-drop end nodes))

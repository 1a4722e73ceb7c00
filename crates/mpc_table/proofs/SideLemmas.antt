-- Where the no sides of splits begin, node by node.
use Rattle.std.proofs.Common.{◌≡◌, ◌≢◌, ℕ, suc, ◌+◌, ◌-◌, ◌<◌, ◌≤◌, ◌⊎◌, inl, inr, List, [], ◌∷◌, ◌++◌, length, get_or, take, drop, Some, refl, sym, ◌∙◌, ap, subst, arith}
use Rattle.std.specs.Prelude.{slice_get, slice_index, slice_range, Contains}
use Rattle.std.proofs.lemmas.List.{take_more, drop_more, get_or-drop, get_or_append_left, get_or_push, length-append, length-drop}
use Rattle.std.proofs.lemmas.Bool.{cases_lt}
use Rattle.std.proofs.lemmas.Option.{get_or_from_slice_get}
use Rattle.mpc_linear.specs.declared.integers.RowInt.{RowInt}
use Rattle.mpc_rows.specs.declared.trees.Node.{Node}
use Rattle.mpc_rows.specs.declared.trees.Node.TheVariants.{Split, Law, NoMove}
use Rattle.mpc_controller.specs.Preorder.{Spells, IsNoSide}
use Rattle.mpc_controller.specs.Walk.{IsLeaf}
use Rattle.mpc_controller.specs.PreorderTheorems.{SplitSpells}
use Rattle.mpc_table.specs.OpenSplits.{IsOpen, AreSidesTo}

-- ---- the nodes from a place on
pub range_more : (nodes : List Node) (from k : ℕ) (node : Node) → from ≤ k → k < length nodes → slice_get nodes k ≡ Some node → slice_range nodes from (k + 1) ≡ slice_range nodes from k ++ node ∷ []
range_more nodes from k node le inside at =
    let count : k + 1 - from ≡ k - from + 1 = omega arith in
    let within : k - from < length (drop from nodes) = omega (arith, length-drop from nodes) in
    let there : from + (k - from) ≡ k = omega arith in
    let value : get_or (drop from nodes) (k - from) node ≡ node = get_or-drop from nodes (k - from) node ∙ ap (λ i. get_or nodes i node) there ∙ get_or_from_slice_get nodes k node node at in
    ap (λ n. take n (drop from nodes)) count ∙ take_more (drop from nodes) (k - from) node within ∙ ap (λ x. take (k - from) (drop from nodes) ++ x ∷ []) value

range_none : (nodes : List Node) (k : ℕ) → slice_range nodes (k + 1) (k + 1) ≡ []
range_none nodes k = let none : k + 1 - (k + 1) ≡ 0 = omega arith in ap (λ n. take n (drop (k + 1) nodes)) none

pub drop_next : (nodes : List Node) (k : ℕ) (node : Node) → k < length nodes → slice_get nodes k ≡ Some node → drop k nodes ≡ node ∷ drop (k + 1) nodes
drop_next nodes k node inside at = drop_more nodes k node inside ∙ ap (λ x. x ∷ drop (k + 1) nodes) (get_or_from_slice_get nodes k node node at)

pub nothing_left : (nodes : List Node) (k : ℕ) → length nodes ≤ k → drop k nodes ≡ []
nothing_left nodes k h = empty (drop k nodes) (omega (arith, length-drop k nodes))
  where
    empty : (xs : List Node) → length xs ≡ 0 → xs ≡ []
    empty [] e = refl
    empty (x ∷ xs) e = absurd (omega arith)

-- ---- the trees that are left behind a node
pub left_split : (rest : List Node) (pending : ℕ) (row : RowInt) → Spells (pending + 1) (Split row ∷ rest) 0 → Spells (pending + 1 + 1) rest 0
left_split rest pending row h = let s : pending + 1 ≡ suc pending = omega arith in let two : suc (suc pending) ≡ pending + 1 + 1 = omega arith in subst (λ n. Spells n rest 0) two (subst (λ n. Spells n (Split row ∷ rest) 0) s h)

pub left_leaf : (rest : List Node) (pending : ℕ) (leaf : Node) → IsLeaf leaf → Spells (pending + 1) (leaf ∷ rest) 0 → Spells pending rest 0
left_leaf rest pending (Split row) is h = absurd is
left_leaf rest pending (Law law certs) is h = let s : pending + 1 ≡ suc pending = omega arith in subst (λ n. Spells n (Law law certs ∷ rest) 0) s h
left_leaf rest pending (NoMove cert) is h = let s : pending + 1 ≡ suc pending = omega arith in subst (λ n. Spells n (NoMove cert ∷ rest) 0) s h

pub none_left : (n : ℕ) → Spells (suc n) [] 0 → ⊥
none_left n h = absurd (omega arith)

pub ended_whole : (rest : List Node) → Spells 0 rest 0 → length rest ≡ 0
ended_whole [] h = refl
ended_whole (x ∷ rest) h = absurd h

-- ---- after one more node
split_of : (node : Node) → ¬ IsLeaf node → (row : RowInt) × (node ≡ Split row)
split_of (Split row) h = (row, refl)
split_of (Law law certs) h = absurd (h tt)
split_of (NoMove cert) h = absurd (h tt)

-- where a place is one of a list with one more behind, and isn't the last, it is one of the others
contained_push : (xs : List ℕ) (y x : ℕ) → Contains xs x → Contains (xs ++ y ∷ []) x
contained_push xs y x h = (h.0, omega (arith, length-append xs (y ∷ []), h.1), get_or_append_left xs (y ∷ []) x h.0 h.1 ∙ h.2)

last_contained : (xs : List ℕ) (y : ℕ) → Contains (xs ++ y ∷ []) y
last_contained xs y = (length xs, omega (arith, length-append xs (y ∷ [])), get_or_push xs y y (length xs) refl)

pub contained_cases : (xs : List ℕ) (y x : ℕ) → Contains (xs ++ y ∷ []) x → Contains xs x ⊎ (x ≡ y)
contained_cases xs y x h = by (cases_lt h.0 (length xs))
  where
    by : (h.0 < length xs) ⊎ (length xs ≤ h.0) → Contains xs x ⊎ (x ≡ y)
    by (inl lt) = inl (h.0, lt, sym (get_or_append_left xs (y ∷ []) x h.0 lt) ∙ h.2)
    by (inr le) = let at : length xs ≡ h.0 = omega (arith, length-append xs (y ∷ []), h.1) in inr (sym h.2 ∙ get_or_push xs y x h.0 at)

pub same_place : (x y : ℕ) → (x ≡ y) ⊎ (x ≢ y)
same_place x y = by (cases_lt x y)
  where
    by : (x < y) ⊎ (y ≤ x) → (x ≡ y) ⊎ (x ≢ y)
    by (inl lt) = inr (λ e. absurd (omega arith))
    by (inr le) = later (cases_lt y x)
      where
        later : (y < x) ⊎ (x ≤ y) → (x ≡ y) ⊎ (x ≢ y)
        later (inl lt) = inr (λ e. absurd (omega arith))
        later (inr ge) = inl (omega arith)

module _ (split_spells : SplitSpells) (nodes : List Node) (k : ℕ) (sides pending : List ℕ) (so_far : AreSidesTo nodes k sides pending) (inside : k < length nodes) where
  longer : length (sides ++ 0 ∷ []) ≡ k + 1
  longer = omega (arith, length-append sides (0 ∷ []), so_far.one_each)

  old_side : (place : ℕ) → place < k → get_or (sides ++ 0 ∷ []) place 0 ≡ get_or sides place 0
  old_side place h = get_or_append_left sides (0 ∷ []) 0 place (omega (arith, so_far.one_each))

  rest_of : (node : Node) → slice_get nodes k ≡ Some node → Spells (length pending + 1) (node ∷ drop (k + 1) nodes) 0
  rest_of node at = subst (λ rest. Spells (length pending + 1) rest 0) (drop_next nodes k node inside at) (so_far.left inside)

  pub sides_split : (node : Node) → slice_get nodes k ≡ Some node → ¬ IsLeaf node → AreSidesTo nodes (k + 1) (sides ++ 0 ∷ []) (pending ++ k ∷ [])
  sides_split node at is =
      let split = split_of node is in
      let row = split.0 in
      let split_at : slice_get nodes k ≡ Some (Split row) = at ∙ ap Some split.1 in
      let size : length (pending ++ k ∷ []) ≡ length pending + 1 = length-append pending (k ∷ []) in
      let left : Spells (length pending + 1 + 1) (drop (k + 1) nodes) 0 = left_split (drop (k + 1) nodes) (length pending) row (rest_of (Split row) split_at) in
      record {
        one_each = longer;
        left = λ more. subst (λ n. Spells (n + 1) (drop (k + 1) nodes) 0) (sym size) left;
        all_ended = λ none. absurd (none_left (length pending + 1) (let s : length pending + 1 + 1 ≡ suc (length pending + 1) = omega arith in subst (λ n. Spells n [] 0) s (subst (λ rest. Spells (length pending + 1 + 1) rest 0) (nothing_left nodes (k + 1) none) left)));
        opened = λ q h. opened_at row split_at q (cases_lt q (length pending)) (subst (λ n. q < n) size h) size;
        ended = λ place r lt place_at apart. ended_at place r place_at (below place lt apart) (λ c. apart (contained_push pending k place c));
      }
    where
      opened_at : (row : RowInt) → slice_get nodes k ≡ Some (Split row) → (q : ℕ) → (q < length pending) ⊎ (length pending ≤ q) → q < length pending + 1 → length (pending ++ k ∷ []) ≡ length pending + 1 → IsOpen nodes (k + 1) (slice_index (pending ++ k ∷ []) q) (length (pending ++ k ∷ []) - q)
      opened_at row split_at q (inl lt) h size =
          let old = so_far.opened q lt in
          let place : get_or (pending ++ k ∷ []) q 0 ≡ get_or pending q 0 = get_or_append_left pending (k ∷ []) 0 q lt in
          let before : get_or pending q 0 < k = old.before in
          let from : get_or pending q 0 + 1 ≤ k = omega arith in
          let one : length pending - q ≡ suc (length pending - q - 1) = omega arith in
          let two : suc (suc (length pending - q - 1)) ≡ length (pending ++ k ∷ []) - q = omega arith in
          record {
            before = (let old_before : get_or (pending ++ k ∷ []) q 0 < k = subst (λ p. p < k) (sym place) before in omega arith);
            yes_side = subst (λ p. Spells 1 (slice_range nodes (p + 1) (k + 1)) (length (pending ++ k ∷ []) - q)) (sym place)
                (subst (λ xs. Spells 1 xs (length (pending ++ k ∷ []) - q)) (sym (range_more nodes (get_or pending q 0 + 1) k (Split row) from inside split_at))
                (subst (Spells 1 (slice_range nodes (get_or pending q 0 + 1) k ++ Split row ∷ [])) two (split_spells 1 (slice_range nodes (get_or pending q 0 + 1) k) (length pending - q - 1) row (subst (Spells 1 (slice_range nodes (get_or pending q 0 + 1) k)) one old.yes_side))));
          }
      opened_at row split_at q (inr le) h size =
          let q_is : length pending ≡ q = omega arith in
          let place : get_or (pending ++ k ∷ []) q 0 ≡ k = get_or_push pending k 0 q q_is in
          let one : 1 ≡ length (pending ++ k ∷ []) - q = omega arith in
          record {
            before = (let here : get_or (pending ++ k ∷ []) q 0 ≡ k = place in omega arith);
            yes_side = subst (λ p. Spells 1 (slice_range nodes (p + 1) (k + 1)) (length (pending ++ k ∷ []) - q)) (sym place) (subst (λ xs. Spells 1 xs (length (pending ++ k ∷ []) - q)) (sym (range_none nodes k)) one);
          }

      below : (place : ℕ) → place < k + 1 → ¬ Contains (pending ++ k ∷ []) place → place < k
      below place lt apart = by (cases_lt place k)
        where
          by : (place < k) ⊎ (k ≤ place) → place < k
          by (inl h) = h
          by (inr h) = let e : k ≡ place = omega arith in absurd (apart (subst (Contains (pending ++ k ∷ [])) e (last_contained pending k)))

      ended_at : (place : ℕ) (r : RowInt) → slice_get nodes place ≡ Some (Split r) → place < k → ¬ Contains pending place → IsNoSide nodes place (slice_index (sides ++ 0 ∷ []) place)
      ended_at place r place_at lt apart = subst (IsNoSide nodes place) (sym (old_side place lt)) (so_far.ended place r lt place_at apart)

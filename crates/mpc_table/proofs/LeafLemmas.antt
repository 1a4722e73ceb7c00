-- Where the no sides of splits begin, behind a leaf.
use Rattle.std.proofs.Common.{◌≡◌, ◌≢◌, ℕ, suc, ◌+◌, ◌-◌, ◌<◌, ◌≤◌, ◌⊎◌, inl, inr, List, [], ◌∷◌, ◌++◌, length, get_or, drop, set, Some, refl, sym, ◌∙◌, ap, subst, arith}
use Rattle.std.specs.Prelude.{slice_get, slice_range, Contains}
use Rattle.std.proofs.lemmas.List.{get_or_append_left, get_or_push, length-append, length-drop, length-set, get_or-set_same, get_or-set_other}
use Rattle.std.proofs.lemmas.Bool.{cases_lt}
use Rattle.std.proofs.lemmas.Option.{slice_get_within}
use Rattle.mpc_linear.specs.declared.integers.RowInt.{RowInt}
use Rattle.mpc_rows.specs.declared.trees.Node.{Node}
use Rattle.mpc_rows.specs.declared.trees.Node.TheVariants.{Split, Law, NoMove}
use Rattle.mpc_controller.specs.Preorder.{Spells, IsTree, IsNoSide}
use Rattle.mpc_controller.specs.Walk.{IsLeaf}
use Rattle.mpc_controller.specs.PreorderTheorems.{LeafSpells}
use Rattle.mpc_table.specs.Steps.{AreNoSides}
use Rattle.mpc_table.specs.OpenSplits.{IsOpen, AreSidesTo}
use Rattle.mpc_table.proofs.SideLemmas.{range_more, drop_next, nothing_left, left_leaf, none_left, ended_whole, contained_cases, same_place}

not_split : (leaf : Node) (row : RowInt) → IsLeaf leaf → leaf ≡ Split row → ⊥
not_split (Split r) row is e = is
not_split (Law law certs) row is e = absurd cc
not_split (NoMove cert) row is e = absurd cc

module _ (leaf_spells : LeafSpells) (nodes : List Node) (k : ℕ) (sides pending : List ℕ) (so_far : AreSidesTo nodes k sides pending) (inside : k < length nodes) (leaf : Node) (at : slice_get nodes k ≡ Some leaf) (is : IsLeaf leaf) where
  longer : length (sides ++ 0 ∷ []) ≡ k + 1
  longer = omega (arith, length-append sides (0 ∷ []), so_far.one_each)

  old_side : (place : ℕ) → place < k → get_or (sides ++ 0 ∷ []) place 0 ≡ get_or sides place 0
  old_side place h = get_or_append_left sides (0 ∷ []) 0 place (omega (arith, so_far.one_each))

  left : Spells (length pending) (drop (k + 1) nodes) 0
  left = left_leaf (drop (k + 1) nodes) (length pending) leaf is (subst (λ rest. Spells (length pending + 1) rest 0) (drop_next nodes k leaf inside at) (so_far.left inside))

  -- the leaf is no split
  below : (place : ℕ) (row : RowInt) → place < k + 1 → slice_get nodes place ≡ Some (Split row) → place < k
  below place row lt place_at = by (cases_lt place k)
    where
      by : (place < k) ⊎ (k ≤ place) → place < k
      by (inl h) = h
      by (inr h) =
          let e : place ≡ k = omega arith in
          let same : Some leaf ≡ Some (Split row) = sym at ∙ ap (slice_get nodes) (sym e) ∙ place_at in
          let equal : leaf ≡ Split row = cc in
          absurd (not_split leaf row is equal)

  pub sides_end : length pending ≡ 0 → AreSidesTo nodes (k + 1) (sides ++ 0 ∷ []) pending
  sides_end none = record {
    one_each = longer;
    left = λ more. absurd (let empty = ended_whole (drop (k + 1) nodes) (subst (λ n. Spells n (drop (k + 1) nodes) 0) none left) in omega (arith, length-drop (k + 1) nodes));
    all_ended = λ _. none;
    opened = λ q h. absurd (omega arith);
    ended = λ place row lt place_at apart. (let lower = below place row lt place_at in subst (IsNoSide nodes place) (sym (old_side place lower)) (so_far.ended place row lower place_at apart));
  }

  -- the innermost open split ends its yes side here
  module _ (front : List ℕ) (last : ℕ) (popped : pending ≡ front ++ last ∷ []) where
    size : length pending ≡ length front + 1
    size = ap length popped ∙ length-append front (last ∷ [])

    last_open : IsOpen nodes k last 1
    last_open =
        let place : get_or pending (length front) 0 ≡ last = ap (λ xs. get_or xs (length front) 0) popped ∙ get_or_push front last 0 (length front) refl in
        let one : length pending - length front ≡ 1 = omega (arith, size) in
        subst (λ p. IsOpen nodes k p 1) place (subst (IsOpen nodes k (get_or pending (length front) 0)) one (so_far.opened (length front) (omega (arith, size))))

    more : k + 1 < length nodes
    more = by (cases_lt (k + 1) (length nodes))
      where
        by : (k + 1 < length nodes) ⊎ (length nodes ≤ k + 1) → k + 1 < length nodes
        by (inl h) = h
        by (inr h) = let s : length pending ≡ suc (length front) = omega (arith, size) in absurd (none_left (length front) (subst (λ n. Spells n [] 0) s (subst (λ rest. Spells (length pending) rest 0) (nothing_left nodes (k + 1) h) left)))

    ended_here : IsNoSide nodes last (k + 1)
    ended_here =
        let before : last < k = last_open.before in
        record {
          after = omega arith;
          before_end = more;
          yes_side = subst (λ xs. Spells 1 xs 0) (sym (range_more nodes (last + 1) k leaf (omega arith) inside at)) (leaf_spells 1 (slice_range nodes (last + 1) k) 0 leaf is last_open.yes_side);
        }

    last_inside : last < length (sides ++ 0 ∷ [])
    last_inside = let before : last < k = last_open.before in omega (arith, longer)

    ended_at : (place : ℕ) (row : RowInt) → slice_get nodes place ≡ Some (Split row) → place < k → ¬ Contains front place → (place ≡ last) ⊎ (place ≢ last) → IsNoSide nodes place (get_or (set (sides ++ 0 ∷ []) last (k + 1)) place 0)
    ended_at place row place_at lt apart (inl e) =
        subst (λ p. IsNoSide nodes p (get_or (set (sides ++ 0 ∷ []) last (k + 1)) p 0)) (sym e)
        (subst (IsNoSide nodes last) (sym (get_or-set_same (sides ++ 0 ∷ []) last (k + 1) 0 last_inside)) ended_here)
    ended_at place row place_at lt apart (inr ne) =
        subst (IsNoSide nodes place) (sym (get_or-set_other (sides ++ 0 ∷ []) last place (k + 1) 0 ne ∙ old_side place lt))
        (so_far.ended place row lt place_at (λ c. by (contained_cases front last place (subst (λ xs. Contains xs place) popped c))))
      where
        by : Contains front place ⊎ (place ≡ last) → ⊥
        by (inl c) = apart c
        by (inr e) = ne e

    opened_at : (q : ℕ) → q < length front → IsOpen nodes (k + 1) (get_or front q 0) (length front - q)
    opened_at q lt =
        let place : get_or pending q 0 ≡ get_or front q 0 = ap (λ xs. get_or xs q 0) popped ∙ get_or_append_left front (last ∷ []) 0 q lt in
        let old : IsOpen nodes k (get_or front q 0) (length pending - q) = subst (λ p. IsOpen nodes k p (length pending - q)) place (so_far.opened q (omega (arith, size))) in
        let before : get_or front q 0 < k = old.before in
        let one : length pending - q ≡ suc (length front - q) = omega (arith, size) in
        record {
          before = omega arith;
          yes_side = subst (λ xs. Spells 1 xs (length front - q)) (sym (range_more nodes (get_or front q 0 + 1) k leaf (omega arith) inside at)) (leaf_spells 1 (slice_range nodes (get_or front q 0 + 1) k) (length front - q) leaf is (subst (Spells 1 (slice_range nodes (get_or front q 0 + 1) k)) one old.yes_side));
        }

    pub sides_pop : AreSidesTo nodes (k + 1) (set (sides ++ 0 ∷ []) last (k + 1)) front
    sides_pop = record {
      one_each = length-set (sides ++ 0 ∷ []) last (k + 1) ∙ longer;
      left = λ _. subst (λ n. Spells n (drop (k + 1) nodes) 0) size left;
      all_ended = λ none. absurd (omega (arith, more));
      opened = λ q h. opened_at q h;
      ended = λ place row lt place_at apart. ended_at place row place_at (below place row lt place_at) apart (same_place place last);
    }

-- ---- the first node, and all nodes
pub sides_none : (nodes : List Node) → IsTree nodes → AreSidesTo nodes 0 [] []
sides_none nodes tree = record {
  one_each = refl;
  left = λ _. tree;
  all_ended = λ _. refl;
  opened = λ q h. absurd (omega arith);
  ended = λ place row lt place_at apart. absurd (omega arith);
}

pub sides_all : (nodes : List Node) (k : ℕ) (sides pending : List ℕ) → AreSidesTo nodes k sides pending → k ≤ length nodes → length nodes ≤ k → AreNoSides nodes sides
sides_all nodes k sides pending so_far low high =
    let none : length pending ≡ 0 = so_far.all_ended high in
    record {
      one_each = omega (arith, so_far.one_each);
      each = λ place row place_at. so_far.ended place row (let lt = slice_get_within nodes place (Split row) place_at in omega arith) place_at (λ c. absurd (omega (arith, c.1)));
    }

-- A node of a search tree has one path.
use Rattle.std.proofs.Common.{◌≡◌, ℕ, zero, suc, ◌+◌, ◌-◌, ◌<◌, ◌≤◌, ◌⊎◌, inl, inr, List, [], ◌∷◌, ◌++◌, take, drop, Some, refl, sym, ◌∙◌, ap, subst, arith, take-add}
use Rattle.std.specs.Prelude.{slice_get, slice_range}
use Rattle.std.proofs.lemmas.Bool.{cases_order}
use Rattle.std.proofs.lemmas.List.{drop-drop, drop_more}
use Rattle.std.proofs.lemmas.Option.{slice_get_within, get_or_from_slice_get}
use Rattle.mpc_linear.specs.declared.integers.RowInt.{RowInt}
use Rattle.mpc_rows.specs.declared.systems.Row.{Row}
use Rattle.mpc_rows.specs.declared.trees.Node.{Node}
use Rattle.mpc_rows.specs.declared.trees.Node.TheVariants.{Split, Law, NoMove}
use Rattle.mpc_rows.specs.LawRows.{whole_row, broken_row}
use Rattle.mpc_controller.specs.Preorder.{Spells, IsTree, IsNoSide}
use Rattle.mpc_controller.specs.Paths.{PathTo, root, yes_side, no_side}

-- ---- what nodes spell
-- the parts of a list spell their trees one after the other
pub spells_parts : (t : ℕ) (xs ys : List Node) (left : ℕ) → Spells t (xs ++ ys) left → (m : ℕ) × Spells t xs m × Spells m ys left
spells_parts zero [] ys left h = (0, refl, h)
spells_parts (suc t) [] ys left h = (suc t, refl, h)
spells_parts zero (x ∷ xs) ys left h = absurd h
spells_parts (suc t) (Split row ∷ xs) ys left h = spells_parts (suc (suc t)) xs ys left h
spells_parts (suc t) (Law law certs ∷ xs) ys left h = spells_parts t xs ys left h
spells_parts (suc t) (NoMove cert ∷ xs) ys left h = spells_parts t xs ys left h

-- so many trees, and no other number of them
spells_one : (t u : ℕ) (xs : List Node) → Spells t xs 0 → Spells u xs 0 → t ≡ u
spells_one zero zero [] a b = refl
spells_one zero (suc u) [] a b = absurd (omega arith)
spells_one (suc t) u [] a b = absurd (omega arith)
spells_one zero u (x ∷ xs) a b = absurd a
spells_one (suc t) zero (x ∷ xs) a b = absurd b
spells_one (suc t) (suc u) (Split row ∷ xs) a b = let e = spells_one (suc (suc t)) (suc (suc u)) xs a b in omega arith
spells_one (suc t) (suc u) (Law law certs ∷ xs) a b = ap suc (spells_one t u xs a b)
spells_one (suc t) (suc u) (NoMove cert ∷ xs) a b = ap suc (spells_one t u xs a b)

-- ---- a split inside of a tree
pub node_on : (nodes : List Node) (q : ℕ) (node : Node) → slice_get nodes q ≡ Some node → drop q nodes ≡ node ∷ drop (q + 1) nodes
node_on nodes q node at = drop_more nodes q node (slice_get_within nodes q node at) ∙ ap (λ x. x ∷ drop (q + 1) nodes) (get_or_from_slice_get nodes q node node at)

taken_on : (b : ℕ) (node : Node) (rest : List Node) → 1 ≤ b → take b (node ∷ rest) ≡ node ∷ take (b - 1) rest
taken_on zero node rest h = absurd (omega arith)
taken_on (suc b) node rest h = let e : b ≡ suc b - 1 = omega arith in ap (λ n. node ∷ take n rest) e

pub range_at : (nodes : List Node) (i q j : ℕ) (node : Node) → i ≤ q → q < j → slice_get nodes q ≡ Some node → slice_range nodes i j ≡ slice_range nodes i q ++ node ∷ slice_range nodes (q + 1) j
range_at nodes i q j node h k at =
    let whole : j - i ≡ (q - i) + (j - q) = omega arith in
    let there : i + (q - i) ≡ q = omega arith in
    let less : j - q - 1 ≡ j - (q + 1) = omega arith in
    ap (λ n. take n (drop i nodes)) whole ∙ take-add (q - i) (j - q) (drop i nodes)
    ∙ ap (λ xs. take (q - i) (drop i nodes) ++ take (j - q) xs) (drop-drop (q - i) i nodes ∙ ap (λ n. drop n nodes) there ∙ node_on nodes q node at)
    ∙ ap (λ xs. take (q - i) (drop i nodes) ++ xs) (taken_on (j - q) node (drop (q + 1) nodes) (omega arith))
    ∙ ap (λ n. take (q - i) (drop i nodes) ++ node ∷ take n (drop (q + 1) nodes)) less

two_left : (m : ℕ) (row : RowInt) (rest : List Node) → Spells m (Split row ∷ rest) 0 → (n : ℕ) × Spells (suc (suc n)) rest 0
two_left zero row rest h = absurd h
two_left (suc m) row rest h = (m, h)

-- behind a split inside of a tree, more than one tree is left
split_inside : (nodes : List Node) (p q k : ℕ) (row : RowInt) → p < q → q < k → IsTree (slice_range nodes (p + 1) k) → slice_get nodes q ≡ Some (Split row) → (n : ℕ) × Spells (suc (suc n)) (slice_range nodes (q + 1) k) 0
split_inside nodes p q k row h l tree at =
    let parts = spells_parts 1 (slice_range nodes (p + 1) q) (Split row ∷ slice_range nodes (q + 1) k) 0 (subst (λ xs. Spells 1 xs 0) (range_at nodes (p + 1) q k (Split row) (omega arith) l at) tree) in
    two_left parts.0 row (slice_range nodes (q + 1) k) parts.2

pub nothing_between : (nodes : List Node) (i j : ℕ) → j ≤ i → slice_range nodes i j ≡ []
nothing_between nodes i j h = let none : j - i ≡ 0 = omega arith in ap (λ n. take n (drop i nodes)) none

pub no_tree : (n : ℕ) → Spells (suc n) [] 0 → ⊥
no_tree n h = absurd (omega arith)

-- a tree doesn't end in a split
pub not_behind_split : (nodes : List Node) (p q : ℕ) (row : RowInt) → slice_get nodes q ≡ Some (Split row) → IsNoSide nodes p (q + 1) → ⊥
not_behind_split nodes p q row at side = by (cases_order p q)
  where
    p_before : p < q + 1
    p_before = side.after

    by : (p ≡ q) ⊎ (p < q) ⊎ (q < p) → ⊥
    by (inl e) = no_tree 0 (subst (λ xs. Spells 1 xs 0) (nothing_between nodes (p + 1) (q + 1) (omega arith)) side.yes_side)
    by (inr (inl l)) =
        let more = split_inside nodes p q (q + 1) row l (omega arith) side.yes_side at in
        no_tree (suc more.0) (subst (λ xs. Spells (suc (suc more.0)) xs 0) (nothing_between nodes (q + 1) (q + 1) (omega arith)) more.1)
    by (inr (inr l)) = absurd (omega arith)

-- two splits don't have one no side
not_both : (nodes : List Node) (p q k : ℕ) (row : RowInt) → p < q → slice_get nodes q ≡ Some (Split row) → IsNoSide nodes p k → IsNoSide nodes q k → ⊥
not_both nodes p q k row l at one two =
    let more = split_inside nodes p q k row l two.after one.yes_side at in
    let none : 1 ≡ suc (suc more.0) = spells_one 1 (suc (suc more.0)) (slice_range nodes (q + 1) k) two.yes_side more.1 in
    absurd (omega arith)

-- ---- the last step of a path
data Comes (nodes : List Node) (k : ℕ) (path : List Row) : Type 0 where
  at_root : k ≡ 0 → path ≡ [] → Comes nodes k path
  from_yes : (place : ℕ) (row : RowInt) (before : List Row) → PathTo nodes place before → slice_get nodes place ≡ Some (Split row) → k ≡ place + 1 → path ≡ before ++ whole_row row ∷ [] → Comes nodes k path
  from_no : (place : ℕ) (row : RowInt) (before : List Row) → PathTo nodes place before → slice_get nodes place ≡ Some (Split row) → IsNoSide nodes place k → path ≡ before ++ broken_row row ∷ [] → Comes nodes k path

comes : (nodes : List Node) (k : ℕ) (path : List Row) → PathTo nodes k path → Comes nodes k path
comes nodes _ _ root = at_root refl refl
comes nodes _ _ (yes_side place row path p at) = from_yes place row path p at refl refl
comes nodes _ _ (no_side place next row path p at side) = from_no place row path p at side refl

module _ (nodes : List Node) where
  same_row : (place other : ℕ) (row mine : RowInt) → slice_get nodes place ≡ Some (Split row) → slice_get nodes other ≡ Some (Split mine) → place ≡ other → row ≡ mine
  same_row place other row mine a b e = let same = ap (slice_get nodes) e in cc

  abbrev OnePath : ℕ → List Row → Type 0
  OnePath place path = (q : List Row) → PathTo nodes place q → path ≡ q

  root_only : (q : List Row) → Comes nodes 0 q → [] ≡ q
  root_only q (at_root e f) = sym f
  root_only q (from_yes place row before p at e f) = absurd (omega arith)
  root_only q (from_no place row before p at side f) = absurd (let a = side.after in omega arith)

  yes_only : (place : ℕ) (row : RowInt) (path : List Row) → OnePath place path → slice_get nodes place ≡ Some (Split row) → (q : List Row) → Comes nodes (place + 1) q → path ++ whole_row row ∷ [] ≡ q
  yes_only place row path same at q (at_root e f) = absurd (omega arith)
  yes_only place row path same at q (from_yes other mine before p at' e f) =
      let one : place ≡ other = omega arith in
      (λ i. same before (subst (λ n. PathTo nodes n before) (sym one) p) i ++ whole_row (same_row place other row mine at at' one i) ∷ []) ∙ sym f
  yes_only place row path same at q (from_no other mine before p at' side f) = absurd (not_behind_split nodes other place row at side)

  no_only : (place next : ℕ) (row : RowInt) (path : List Row) → OnePath place path → slice_get nodes place ≡ Some (Split row) → IsNoSide nodes place next → (q : List Row) → Comes nodes next q → path ++ broken_row row ∷ [] ≡ q
  no_only place next row path same at side q (at_root e f) = absurd (let a = side.after in omega arith)
  no_only place next row path same at side q (from_yes other mine before p at' e f) = absurd (not_behind_split nodes place other mine at' (subst (IsNoSide nodes place) e side))
  no_only place next row path same at side q (from_no other mine before p at' side' f) = by (cases_order place other)
    where
      by : (place ≡ other) ⊎ (place < other) ⊎ (other < place) → path ++ broken_row row ∷ [] ≡ q
      by (inl one) = (λ i. same before (subst (λ n. PathTo nodes n before) (sym one) p) i ++ broken_row (same_row place other row mine at at' one i) ∷ []) ∙ sym f
      by (inr (inl l)) = absurd (not_both nodes place other next mine l at' side side')
      by (inr (inr l)) = absurd (not_both nodes other place next row l at side' side)

pub one_path : (nodes : List Node) (k : ℕ) (p : List Row) → PathTo nodes k p → (q : List Row) → PathTo nodes k q → p ≡ q
one_path nodes _ _ root q b = root_only nodes q (comes nodes 0 q b)
one_path nodes _ _ (yes_side place row path a at) q b = yes_only nodes place row path (one_path nodes place path a) at q (comes nodes (place + 1) q b)
one_path nodes _ _ (no_side place next row path a at side) q b = no_only nodes place next row path (one_path nodes place path a) at side q (comes nodes next q b)

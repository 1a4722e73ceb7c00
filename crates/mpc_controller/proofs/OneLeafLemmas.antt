-- The walk through a search tree ends at exactly one leaf.
use Rattle.std.proofs.Common.{◌≡◌, ℕ, zero, suc, ◌+◌, ◌-◌, ◌<◌, ◌≤◌, ◌⊎◌, inl, inr, List, [], ◌∷◌, length, take, drop, map, Some, refl, sym, ◌∙◌, ap, subst, arith, zero-add}
use Rattle.std.specs.Prelude.{slice_get}
use Rattle.std.proofs.lemmas.List.{length-drop, drop-drop}
use Rattle.mpc_exact.specs.Rational.{ℚ, int, ◌≤ℚ◌, ◌<ℚ◌}
use Rattle.mpc_exact.proofs.RationalOrder.{le_or_lt}
use Rattle.mpc_exact.proofs.OrderTheorems.{≤ℚ-not-<}
use Rattle.mpc_space.specs.Vector.{dot}
use Rattle.mpc_linear.specs.declared.integers.RowInt.{RowInt}
use Rattle.mpc_rows.specs.declared.trees.Node.{Node}
use Rattle.mpc_rows.specs.declared.trees.Node.TheVariants.{Split, Law, NoMove}
use Rattle.mpc_controller.specs.Preorder.{Spells, IsNoSide}
use Rattle.mpc_controller.specs.OneLeaf.{OneLeaf}
use Rattle.mpc_controller.specs.Walk.{Satisfies, Reaches, root, yes_side, no_side, IsLeaf, EndsAt}

-- ---- a split has at most one no side
prefix_unique : (t : ℕ) (xs : List Node) (n m : ℕ) → n ≤ length xs → m ≤ length xs → Spells (suc t) (take n xs) 0 → Spells (suc t) (take m xs) 0 → n ≡ m
prefix_unique t xs zero m hn hm a b = absurd (omega arith)
prefix_unique t [] (suc n) m hn hm a b = absurd (omega arith)
prefix_unique t (x ∷ xs) (suc n) zero hn hm a b = absurd (omega arith)
prefix_unique t (Split row ∷ xs) (suc n) (suc m) hn hm a b = ap suc (prefix_unique (suc t) xs n m (omega arith) (omega arith) a b)
prefix_unique (suc t) (Law law certs ∷ xs) (suc n) (suc m) hn hm a b = ap suc (prefix_unique t xs n m (omega arith) (omega arith) a b)
prefix_unique (suc t) (NoMove cert ∷ xs) (suc n) (suc m) hn hm a b = ap suc (prefix_unique t xs n m (omega arith) (omega arith) a b)
prefix_unique zero (Law law certs ∷ xs) (suc n) (suc m) hn hm a b = ap suc (none_more xs n (omega arith) a ∙ sym (none_more xs m (omega arith) b))
  where
    none_more : (xs : List Node) (n : ℕ) → n ≤ length xs → Spells 0 (take n xs) 0 → n ≡ 0
    none_more xs zero h a = refl
    none_more [] (suc n) h a = absurd (omega arith)
    none_more (x ∷ xs) (suc n) h a = absurd a
prefix_unique zero (NoMove cert ∷ xs) (suc n) (suc m) hn hm a b = ap suc (none_more xs n (omega arith) a ∙ sym (none_more xs m (omega arith) b))
  where
    none_more : (xs : List Node) (n : ℕ) → n ≤ length xs → Spells 0 (take n xs) 0 → n ≡ 0
    none_more xs zero h a = refl
    none_more [] (suc n) h a = absurd (omega arith)
    none_more (x ∷ xs) (suc n) h a = absurd a

side_unique : (nodes : List Node) (k a b : ℕ) → IsNoSide nodes k a → IsNoSide nodes k b → a ≡ b
side_unique nodes k a b h g =
    let a_after : k < a = h.after in
    let b_after : k < b = g.after in
    let a_in : a - (k + 1) ≤ length (drop (k + 1) nodes) = omega (arith, length-drop (k + 1) nodes, h.before_end) in
    let b_in : b - (k + 1) ≤ length (drop (k + 1) nodes) = omega (arith, length-drop (k + 1) nodes, g.before_end) in
    let same : a - (k + 1) ≡ b - (k + 1) = prefix_unique 0 (drop (k + 1) nodes) (a - (k + 1)) (b - (k + 1)) a_in b_in h.yes_side g.yes_side in
    omega arith

-- ---- walks from any place, first step first
data Goes (nodes : List Node) (t : List ℚ) : ℕ → ℕ → Type 0 where
  stay : (k : ℕ) → Goes nodes t k k
  by_yes : (k q : ℕ) (row : RowInt) → slice_get nodes k ≡ Some (Split row) → Satisfies row t → Goes nodes t (k + 1) q → Goes nodes t k q
  by_no : (k next q : ℕ) (row : RowInt) → slice_get nodes k ≡ Some (Split row) → ¬ Satisfies row t → IsNoSide nodes k next → Goes nodes t next q → Goes nodes t k q

module _ (nodes : List Node) (t : List ℚ) where
  joined : (k p q : ℕ) → Goes nodes t k p → Goes nodes t p q → Goes nodes t k q
  joined _ _ q (stay i) g = g
  joined _ _ q (by_yes i e row at h rest) g = by_yes i q row at h (joined (i + 1) e q rest g)
  joined _ _ q (by_no i next e row at h side rest) g = by_no i next q row at h side (joined next e q rest g)

  from_root : (p : ℕ) → Reaches nodes t p → Goes nodes t 0 p
  from_root _ root = stay 0
  from_root _ (yes_side place row r at h) = joined 0 place (place + 1) (from_root place r) (by_yes place (place + 1) row at h (stay (place + 1)))
  from_root _ (no_side place next row r at h side) = joined 0 place next (from_root place r) (by_no place next next row at h side (stay next))

  not_leaf : (k : ℕ) (row : RowInt) (leaf : Node) → slice_get nodes k ≡ Some (Split row) → slice_get nodes k ≡ Some leaf → IsLeaf leaf → ⊥
  not_leaf k row leaf at other is = let same : leaf ≡ Split row = cc in let no : IsLeaf (Split row) = subst IsLeaf same is in no

  same_row : (k : ℕ) (row other : RowInt) → slice_get nodes k ≡ Some (Split row) → slice_get nodes k ≡ Some (Split other) → row ≡ other
  same_row k row other a b = cc

  after_yes : (k q : ℕ) (row : RowInt) (leaf : Node) → slice_get nodes k ≡ Some (Split row) → Satisfies row t → slice_get nodes q ≡ Some leaf → IsLeaf leaf → Goes nodes t k q → Goes nodes t (k + 1) q
  after_yes _ _ row leaf at h last is (stay i) = absurd (not_leaf i row leaf at last is)
  after_yes _ _ row leaf at h last is (by_yes i e other at' h' rest) = rest
  after_yes _ _ row leaf at h last is (by_no i next e other at' h' side rest) = absurd (h' (subst (λ r. Satisfies r t) (same_row i row other at at') h))

  after_no : (k next q : ℕ) (row : RowInt) (leaf : Node) → slice_get nodes k ≡ Some (Split row) → ¬ Satisfies row t → IsNoSide nodes k next → slice_get nodes q ≡ Some leaf → IsLeaf leaf → Goes nodes t k q → Goes nodes t next q
  after_no _ next _ row leaf at h side last is (stay i) = absurd (not_leaf i row leaf at last is)
  after_no _ next _ row leaf at h side last is (by_yes i e other at' h' rest) = absurd (h (subst (λ r. Satisfies r t) (sym (same_row i row other at at')) h'))
  after_no _ next _ row leaf at h side last is (by_no i other_next e other at' h' other_side rest) = subst (λ n. Goes nodes t n e) (side_unique nodes i other_next next other_side side) rest

  along : (p q : ℕ) (leaf : Node) → Reaches nodes t p → EndsAt nodes t q leaf → Goes nodes t p q
  along _ q leaf root ends = from_root q ends.reached
  along _ q leaf (yes_side place row r at h) ends = after_yes place q row leaf at h ends.node_at ends.is_leaf (along place q leaf r ends)
  along _ q leaf (no_side place next row r at h side) ends = after_no place next q row leaf at h side ends.node_at ends.is_leaf (along place q leaf r ends)

  stays : (p q : ℕ) (leaf : Node) → slice_get nodes p ≡ Some leaf → IsLeaf leaf → Goes nodes t p q → p ≡ q
  stays _ _ leaf at is (stay i) = refl
  stays _ _ leaf at is (by_yes i e row at' h rest) = absurd (not_leaf i row leaf at' at is)
  stays _ _ leaf at is (by_no i next e row at' h side rest) = absurd (not_leaf i row leaf at' at is)

  pub ends_once : (p q : ℕ) (leaf other : Node) → EndsAt nodes t p leaf → EndsAt nodes t q other → p ≡ q
  ends_once p q leaf other a b = stays p q leaf a.node_at a.is_leaf (along p q other a.reached b)

-- ---- and somewhere
prefix_some : (trees left : ℕ) (xs : List Node) → Spells (trees + left) xs 0 → (n : ℕ) × (n ≤ length xs) × Spells trees (take n xs) 0 × Spells left (drop n xs) 0
prefix_some zero left xs h = (0, omega arith, refl, subst (λ n. Spells n xs 0) (zero-add left) h)
prefix_some (suc trees) left [] h = absurd (omega arith)
prefix_some (suc trees) left (Split row ∷ xs) h =
    let s : suc trees + left ≡ suc (trees + left) = omega arith in
    let more : suc (suc (trees + left)) ≡ suc (suc trees) + left = omega arith in
    let r = prefix_some (suc (suc trees)) left xs (subst (λ n. Spells n xs 0) more (subst (λ n. Spells n (Split row ∷ xs) 0) s h)) in
    (suc r.0, (let le = r.1 in omega arith), r.2, r.3)
prefix_some (suc trees) left (Law law certs ∷ xs) h =
    let s : suc trees + left ≡ suc (trees + left) = omega arith in
    let r = prefix_some trees left xs (subst (λ n. Spells n (Law law certs ∷ xs) 0) s h) in
    (suc r.0, (let le = r.1 in omega arith), r.2, r.3)
prefix_some (suc trees) left (NoMove cert ∷ xs) h =
    let s : suc trees + left ≡ suc (trees + left) = omega arith in
    let r = prefix_some trees left xs (subst (λ n. Spells n (NoMove cert ∷ xs) 0) s h) in
    (suc r.0, (let le = r.1 in omega arith), r.2, r.3)

some_left : (m : ℕ) (xs : List Node) → Spells (suc m) xs 0 → 0 < length xs
some_left m [] h = absurd (omega arith)
some_left m (x ∷ xs) h = omega arith

node_at : (nodes : List Node) (k : ℕ) → k < length nodes → (node : Node) × (slice_get nodes k ≡ Some node) × (drop k nodes ≡ node ∷ drop (suc k) nodes)
node_at [] k h = absurd (omega arith)
node_at (x ∷ xs) zero h = (x, refl, refl)
node_at (x ∷ xs) (suc k) h = node_at xs k (omega arith)

module _ (nodes : List Node) (t : List ℚ) where
  no_side_from : (k m n : ℕ) → n ≤ length (drop (k + 1) nodes) → Spells 1 (take n (drop (k + 1) nodes)) 0 → Spells (suc m) (drop n (drop (k + 1) nodes)) 0 → IsNoSide nodes k (k + 1 + n)
  no_side_from k m n le one rest =
      let same : k + 1 + n - (k + 1) ≡ n = omega arith in
      let some : 0 < length (drop n (drop (k + 1) nodes)) = some_left m (drop n (drop (k + 1) nodes)) rest in
      record {
        after = omega arith;
        before_end = omega (arith, some, length-drop n (drop (k + 1) nodes), length-drop (k + 1) nodes);
        yes_side = subst (λ i. Spells 1 (take i (drop (k + 1) nodes)) 0) (sym same) one;
      }

  abbrev SomeEnd : Type 0
  SomeEnd = (place : ℕ) × (leaf : Node) × EndsAt nodes t place leaf

  -- from a place on, with so many steps to spare
  abbrev EndsWithin : ℕ → Type 0
  EndsWithin fuel = (k m : ℕ) → length nodes ≤ k + fuel → Reaches nodes t k → Spells (suc m) (drop k nodes) 0 → SomeEnd

  from_split : (fuel k m : ℕ) → EndsWithin fuel → length nodes ≤ k + suc fuel → Reaches nodes t k → (row : RowInt) → slice_get nodes k ≡ Some (Split row) → Spells (suc (suc m)) (drop (k + 1) nodes) 0
      → (dot (map int row.a) t ≤ℚ int row.b) ⊎ (int row.b <ℚ dot (map int row.a) t) → SomeEnd
  from_split fuel k m go le r row at rest (inl h) = go (k + 1) (suc m) (omega arith) (yes_side k row r at (record { at_most = h })) rest
  from_split fuel k m go le r row at rest (inr h) =
      let two : suc (suc m) ≡ 1 + suc m = omega arith in
      let p = prefix_some 1 (suc m) (drop (k + 1) nodes) (subst (λ n. Spells n (drop (k + 1) nodes) 0) two rest) in
      go (k + 1 + p.0) m (omega arith) (no_side k (k + 1 + p.0) row r at (λ s. ≤ℚ-not-< s.at_most h) (no_side_from k m p.0 p.1 p.2 p.3)) (subst (λ xs. Spells (suc m) xs 0) (drop-drop p.0 (k + 1) nodes) p.3)

  from_node : (fuel k m : ℕ) → EndsWithin fuel → length nodes ≤ k + suc fuel → Reaches nodes t k → (node : Node) → slice_get nodes k ≡ Some node → Spells (suc m) (node ∷ drop (k + 1) nodes) 0 → SomeEnd
  from_node fuel k m go le r (Split row) at h = from_split fuel k m go le r row at h (le_or_lt (dot (map int row.a) t) (int row.b))
  from_node fuel k m go le r (Law law certs) at h = (k, Law law certs, record { reached = r; node_at = at; is_leaf = tt })
  from_node fuel k m go le r (NoMove cert) at h = (k, NoMove cert, record { reached = r; node_at = at; is_leaf = tt })

  ends_from : (fuel : ℕ) → EndsWithin fuel
  ends_from zero k m le r s = absurd (let some = some_left m (drop k nodes) s in omega (arith, some, length-drop k nodes))
  ends_from (suc fuel) k m le r s =
      let some = some_left m (drop k nodes) s in
      let inside : k < length nodes = omega (arith, some, length-drop k nodes) in
      let here = node_at nodes k inside in
      let one : suc k ≡ k + 1 = omega arith in
      from_node fuel k m (ends_from fuel) le r here.0 here.1 (subst (λ i. Spells (suc m) (here.0 ∷ drop i nodes) 0) one (subst (λ xs. Spells (suc m) xs 0) here.2 s))

pub ends_at_one_leaf : OneLeaf
ends_at_one_leaf nodes t tree =
    let e = ends_from nodes t (length nodes) 0 0 (omega arith) root tree in
    record { place = e.0; leaf = e.1; ends = e.2; only = λ other node ends. ends_once nodes t other e.0 node e.1 ends e.2 }

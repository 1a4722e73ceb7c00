-- The walk over a tree's nodes in preorder, with the number of splits above each tree that is still owed.
use Rattle.std.proofs.Common.{◌≡◌, ℕ, zero, suc, ◌+◌, ◌<◌, ◌≤◌, max, List, [], ◌∷◌, ◌++◌, length, drop, get_or, refl, sym, ◌∙◌, ap, subst, arith, append_assoc, add-one, drop-cons, length-append}
use Rattle.std.proofs.lemmas.List.{append-nil}
use Rattle.mpc_linear.specs.declared.integers.RowInt.{RowInt}
use Rattle.mpc_rows.specs.declared.trees.Node.{Node}
use Rattle.mpc_rows.specs.declared.trees.Node.TheVariants.{Split, Law, NoMove}
use Rattle.mpc_controller.specs.Preorder.{Spells, IsTree}
use Rattle.mpc_trace.specs.SearchTree.{SearchTree, law_leaf, no_move_leaf, split, preorder, leaf_count, depth_of, IsTreeOf}

-- ---- trees one after another
abbrev nodes_of : List SearchTree → List Node
nodes_of [] = []
nodes_of (t ∷ ts) = preorder t ++ nodes_of ts

record Forest (count : ℕ) (nodes : List Node) : Type 0 where
  trees : List SearchTree
  as_many : length trees ≡ count
  nodes_are : nodes ≡ nodes_of trees

split_first : (row : RowInt) (count : ℕ) (nodes : List Node) (trees : List SearchTree) → length trees ≡ suc (suc count) → nodes ≡ nodes_of trees → Forest (suc count) (Split row ∷ nodes)
split_first row count nodes [] e f = absurd (omega (arith, e))
split_first row count nodes (s ∷ []) e f = absurd (omega (arith, e))
split_first row count nodes (s ∷ t ∷ ts) e f = record {
  trees = split row s t ∷ ts;
  as_many = omega (arith, e);
  nodes_are = ap (λ ns. Split row ∷ ns) (f ∙ sym (append_assoc (preorder s) (preorder t) (nodes_of ts)));
}

spelled : (count : ℕ) (nodes : List Node) → Spells count nodes 0 → Forest count nodes
spelled count [] h = record { trees = []; as_many = sym h; nodes_are = refl }
spelled zero (node ∷ nodes) h = absurd h
spelled (suc count) (Split row ∷ nodes) h = let f = spelled (suc (suc count)) nodes h in split_first row count nodes f.trees f.as_many f.nodes_are
spelled (suc count) (Law law certs ∷ nodes) h = let f = spelled count nodes h in record { trees = law_leaf law certs ∷ f.trees; as_many = ap suc f.as_many; nodes_are = ap (λ ns. Law law certs ∷ ns) f.nodes_are }
spelled (suc count) (NoMove cert ∷ nodes) h = let f = spelled count nodes h in record { trees = no_move_leaf cert ∷ f.trees; as_many = ap suc f.as_many; nodes_are = ap (λ ns. NoMove cert ∷ ns) f.nodes_are }

-- a list of nodes that spells one tree is the preorder of a tree
pub tree_of : (nodes : List Node) → IsTree nodes → (tree : SearchTree) × (nodes ≡ preorder tree)
tree_of nodes h = let f = spelled 1 nodes h in only f.trees f.as_many f.nodes_are
  where
    only : (trees : List SearchTree) → length trees ≡ 1 → nodes ≡ nodes_of trees → (tree : SearchTree) × (nodes ≡ preorder tree)
    only [] e g = absurd (omega (arith, e))
    only (s ∷ []) e g = (s, g ∙ append-nil (preorder s))
    only (s ∷ t ∷ ts) e g = absurd (omega (arith, e))

-- ---- what is owed: of each tree that is still to come the number of splits above it, the next one first
abbrev Owed : Type 0
Owed = List (ℕ × SearchTree)

abbrev owed_nodes : Owed → List Node
owed_nodes [] = []
owed_nodes (t ∷ ts) = preorder t.1 ++ owed_nodes ts

-- and the next one last
abbrev above_of : Owed → List ℕ
above_of [] = []
above_of (t ∷ ts) = above_of ts ++ t.0 ∷ []

abbrev leaves_of : Owed → ℕ
leaves_of [] = 0
leaves_of (t ∷ ts) = leaf_count t.1 + leaves_of ts

abbrev deepest_of : Owed → ℕ
deepest_of [] = 0
deepest_of (t ∷ ts) = max (t.0 + depth_of t.1) (deepest_of ts)

abbrev AreAtMost : ℕ → Owed → Type 0
AreAtMost passed [] = Unit {0}
AreAtMost passed (t ∷ ts) = (t.0 ≤ passed) × AreAtMost passed ts

pub record IsOwed (whole : SearchTree) (rest : List Node) (owed : List ℕ) (leaves deepest passed : ℕ) : Type 0 where
  pub trees : List (ℕ × SearchTree)
  pub rest_are : rest ≡ owed_nodes trees
  pub owed_are : owed ≡ above_of trees
  pub leaves_are : leaves + leaves_of trees ≡ leaf_count whole
  pub depth_is : max deepest (deepest_of trees) ≡ depth_of whole
  pub few : AreAtMost passed trees
  pub leaves_few : leaves ≤ passed

few_more : (passed : ℕ) (ts : Owed) → AreAtMost passed ts → AreAtMost (passed + 1) ts
few_more passed [] h = tt
few_more passed (t ∷ ts) h = (omega (arith, h.0), few_more passed ts h.1)

-- ---- the last of a list
snoc_same : (xs ys : List ℕ) (x y : ℕ) → xs ++ x ∷ [] ≡ ys ++ y ∷ [] → (xs ≡ ys) × (x ≡ y)
snoc_same [] [] x y e = (refl, cc)
snoc_same [] (b ∷ []) x y e = absurd cc
snoc_same [] (b ∷ c ∷ ys) x y e = absurd cc
snoc_same (a ∷ []) [] x y e = absurd cc
snoc_same (a ∷ c ∷ xs) [] x y e = absurd cc
snoc_same (a ∷ xs) (b ∷ ys) x y e =
    let first : a ≡ b = cc in
    let later : xs ++ x ∷ [] ≡ ys ++ y ∷ [] = cc in
    let s = snoc_same xs ys x y later in
    (λ i. first i ∷ s.0 i, s.1)

-- ---- the start and the end
pub owed_first : (whole : SearchTree) (nodes : List Node) → nodes ≡ preorder whole → IsOwed whole nodes (0 ∷ []) 0 0 0
owed_first whole nodes h = record {
  trees = (0, whole) ∷ [];
  rest_are = h ∙ sym (append-nil (preorder whole));
  owed_are = refl;
  leaves_are = omega arith;
  depth_is = omega arith;
  few = (omega arith, tt);
  leaves_few = omega arith;
}

no_nodes : (t : SearchTree) (rest : List Node) → [] ≡ preorder t ++ rest → ⊥
no_nodes (law_leaf law certs) rest e = absurd cc
no_nodes (no_move_leaf cert) rest e = absurd cc
no_nodes (split row inside outside) rest e = absurd cc

pub owed_last : (whole : SearchTree) (nodes : List Node) (owed : List ℕ) (leaves deepest passed : ℕ) → nodes ≡ preorder whole → IsOwed whole [] owed leaves deepest passed → IsTreeOf nodes leaves deepest
owed_last whole nodes owed leaves deepest passed is h = go h.trees h.rest_are h.leaves_are h.depth_is
  where
    go : (trees : Owed) → [] ≡ owed_nodes trees → leaves + leaves_of trees ≡ leaf_count whole → max deepest (deepest_of trees) ≡ depth_of whole → IsTreeOf nodes leaves deepest
    go [] r e f = record { tree = whole; nodes_are = is; leaves_are = omega (arith, e); depth_is = omega (arith, f) }
    go (t ∷ ts) r e f = absurd (no_nodes t.1 (owed_nodes ts) r)

-- ---- a step
-- the next tree's splits above, those of the others, and what is owed behind the node
abbrev pub IsNext : SearchTree → Node → List Node → List ℕ → ℕ → ℕ → ℕ → ℕ → Type 0
IsNext whole (Split row) rest others above leaves deepest passed = IsOwed whole rest ((others ++ (above + 1) ∷ []) ++ (above + 1) ∷ []) leaves deepest (passed + 1)
IsNext whole (Law law certs) rest others above leaves deepest passed = IsOwed whole rest others (leaves + 1) (max above deepest) (passed + 1)
IsNext whole (NoMove cert) rest others above leaves deepest passed = IsOwed whole rest others (leaves + 1) (max above deepest) (passed + 1)

pub record IsStep (whole : SearchTree) (node : Node) (rest : List Node) (owed : List ℕ) (leaves deepest passed : ℕ) : Type 0 where
  pub others : List ℕ
  pub above : ℕ
  pub owed_are : owed ≡ others ++ above ∷ []
  pub above_few : above ≤ passed
  pub leaves_few : leaves ≤ passed
  pub next : IsNext whole node rest others above leaves deepest passed

module _ (whole : SearchTree) (rest : List Node) (leaves deepest passed : ℕ) where
  step_at : (node : Node) (above : ℕ) (tree : SearchTree) (ts : Owed) → (node ∷ rest) ≡ preorder tree ++ owed_nodes ts → leaves + (leaf_count tree + leaves_of ts) ≡ leaf_count whole
      → max deepest (max (above + depth_of tree) (deepest_of ts)) ≡ depth_of whole → above ≤ passed → AreAtMost passed ts → leaves ≤ passed → IsNext whole node rest (above_of ts) above leaves deepest passed
  step_at node above (law_leaf law certs) ts r e f p q l =
      let is : Law law certs ≡ node = cc in
      let left : rest ≡ owed_nodes ts = cc in
      subst (λ k. IsNext whole k rest (above_of ts) above leaves deepest passed) is
      (record { trees = ts; rest_are = left; owed_are = refl; leaves_are = omega (arith, e); depth_is = omega (arith, f); few = few_more passed ts q; leaves_few = omega (arith, l) })
  step_at node above (no_move_leaf cert) ts r e f p q l =
      let is : NoMove cert ≡ node = cc in
      let left : rest ≡ owed_nodes ts = cc in
      subst (λ k. IsNext whole k rest (above_of ts) above leaves deepest passed) is
      (record { trees = ts; rest_are = left; owed_are = refl; leaves_are = omega (arith, e); depth_is = omega (arith, f); few = few_more passed ts q; leaves_few = omega (arith, l) })
  step_at node above (split row inside outside) ts r e f p q l =
      let is : Split row ≡ node = cc in
      let left : rest ≡ (preorder inside ++ preorder outside) ++ owed_nodes ts = cc in
      subst (λ k. IsNext whole k rest (above_of ts) above leaves deepest passed) is
      (record {
        trees = (above + 1, inside) ∷ (above + 1, outside) ∷ ts;
        rest_are = left ∙ append_assoc (preorder inside) (preorder outside) (owed_nodes ts);
        owed_are = refl;
        leaves_are = omega (arith, e);
        depth_is = omega (arith, f);
        few = (omega (arith, p), (omega (arith, p), few_more passed ts q));
        leaves_few = omega (arith, l);
      })

pub step : (whole : SearchTree) (node : Node) (rest : List Node) (owed : List ℕ) (leaves deepest passed : ℕ) → IsOwed whole (node ∷ rest) owed leaves deepest passed → IsStep whole node rest owed leaves deepest passed
step whole node rest owed leaves deepest passed h = go h.trees h.rest_are h.owed_are h.leaves_are h.depth_is h.few
  where
    go : (trees : Owed) → (node ∷ rest) ≡ owed_nodes trees → owed ≡ above_of trees → leaves + leaves_of trees ≡ leaf_count whole → max deepest (deepest_of trees) ≡ depth_of whole → AreAtMost passed trees
        → IsStep whole node rest owed leaves deepest passed
    go [] r o e f q = absurd cc
    go (t ∷ ts) r o e f q = record {
      others = above_of ts;
      above = t.0;
      owed_are = o;
      above_few = q.0;
      leaves_few = h.leaves_few;
      next = step_at whole rest leaves deepest passed node t.0 t.1 ts r e f q.0 q.1 h.leaves_few;
    }

-- by what was taken from the end of the list
pub step_taken : (whole : SearchTree) (node : Node) (rest : List Node) (owed others : List ℕ) (above leaves deepest passed : ℕ) → IsStep whole node rest owed leaves deepest passed → owed ≡ others ++ above ∷ []
    → IsNext whole node rest others above leaves deepest passed
step_taken whole node rest owed others above leaves deepest passed s e =
    let same = snoc_same s.others others s.above above (sym s.owed_are ∙ e) in
    subst (λ k. IsNext whole node rest others k leaves deepest passed) same.1 (subst (λ k. IsNext whole node rest k s.above leaves deepest passed) same.0 s.next)

-- at a place among the nodes
pub walked : (whole : SearchTree) (nodes : List Node) (i : ℕ) (node : Node) (owed : List ℕ) (leaves deepest : ℕ) → i < length nodes → node ≡ get_or nodes i node → IsOwed whole (drop i nodes) owed leaves deepest i
    → IsStep whole node (drop (i + 1) nodes) owed leaves deepest i
walked whole nodes i node owed leaves deepest below is h =
    step whole node (drop (i + 1) nodes) owed leaves deepest i (subst (λ k. IsOwed whole k owed leaves deepest i) split_here h)
  where
    split_here : drop i nodes ≡ node ∷ drop (i + 1) nodes
    split_here = rw (add-one, drop-cons nodes i node) (ap (λ k. k ∷ drop (suc i) nodes) (sym is))

-- something is owed at a node
pub some_owed : (whole : SearchTree) (node : Node) (rest : List Node) (owed : List ℕ) (leaves deepest passed : ℕ) → IsStep whole node rest owed leaves deepest passed → 0 < length owed
some_owed whole node rest owed leaves deepest passed s = let l : length owed ≡ length (s.others ++ s.above ∷ []) = ap length s.owed_are in omega (arith, l, length-append s.others (s.above ∷ []))

pub above_at_most : (whole : SearchTree) (node : Node) (rest : List Node) (owed others : List ℕ) (above leaves deepest passed : ℕ) → IsStep whole node rest owed leaves deepest passed → owed ≡ others ++ above ∷ [] → above ≤ passed
above_at_most whole node rest owed others above leaves deepest passed s e =
    let same = snoc_same s.others others s.above above (sym s.owed_are ∙ e) in omega (arith, same.1, s.above_few)

-- at a split and at a leaf
pub next_split : (whole : SearchTree) (node : Node) (row : RowInt) (rest : List Node) (others : List ℕ) (above leaves deepest passed : ℕ) → node ≡ Split row → IsNext whole node rest others above leaves deepest passed
    → IsOwed whole rest ((others ++ (above + 1) ∷ []) ++ (above + 1) ∷ []) leaves deepest (passed + 1)
next_split whole node row rest others above leaves deepest passed e h = subst (λ k. IsNext whole k rest others above leaves deepest passed) e h

pub next_leaf : (whole : SearchTree) (node : Node) (rest : List Node) (others : List ℕ) (above leaves deepest passed : ℕ) → ((row : RowInt) → node ≡ Split row → ⊥) → IsNext whole node rest others above leaves deepest passed
    → IsOwed whole rest others (leaves + 1) (max above deepest) (passed + 1)
next_leaf whole (Split row) rest others above leaves deepest passed other h = absurd (other row refl)
next_leaf whole (Law law certs) rest others above leaves deepest passed other h = h
next_leaf whole (NoMove cert) rest others above leaves deepest passed other h = h

pub moved : (whole : SearchTree) (rest : List Node) (owed owed_now : List ℕ) (leaves leaves_now deepest deepest_now passed : ℕ) → owed_now ≡ owed → leaves_now ≡ leaves → deepest_now ≡ deepest
    → IsOwed whole rest owed leaves deepest passed → IsOwed whole rest owed_now leaves_now deepest_now passed
moved whole rest owed owed_now leaves leaves_now deepest deepest_now passed e f g h =
    subst (λ k. IsOwed whole rest k leaves_now deepest_now passed) (sym e) (subst (λ k. IsOwed whole rest owed k deepest_now passed) (sym f) (subst (λ k. IsOwed whole rest owed leaves k passed) (sym g) h))

-- The nodes of a tree whose splits name planes are read one after another.
use Rattle.std.proofs.Common.{◌≡◌, ℕ, ◌^◌, ◌<◌, ◌≤◌, nat_lt, cond, List, [], ◌∷◌, ◌++◌, length, map, codes, Result, Ok, Err, IsErrAnd, inl, inr, refl, sym, ap, ◌∙◌, subst, arith}
use Rattle.std.proofs.lemmas.Bool.Decides.{nat_tests}
use Rattle.std.proofs.lemmas.List.Sums.{fold-append}
use Rattle.mpc_linear.specs.declared.integers.RowInt.{RowInt}
use Rattle.mpc_plant.specs.declared.plants.Plant.{Plant}
use Rattle.mpc_rows.specs.declared.trees.Node.{Node}
use Rattle.mpc_rows.specs.declared.trees.Node.TheVariants.{Split}
use Rattle.mpc_grammar.specs.declared.errors.FileKind.TheVariants.{BadNode}
use Rattle.mpc_grammar.specs.declared.errors.FileError.{FileError}
use Rattle.mpc_grammar.specs.declared.errors.FileError.TheVariants.{Bad, NoMemory}
use Rattle.mpc_grammar.specs.Reading.{Cursor, TakesLine, LineRule, Grammar, one_line, give, Outcome}
use Rattle.mpc_grammar.specs.PlantGrammar.{plain_rule, IsNumber}
use Rattle.mpc_grammar.specs.TreeGrammar.{NodeOver, split_node, law_node, no_move_node, node_at, owed_behind, named_split, plane_named, planes_used, used_with, IsWord, node_of, IsNext, NamesNone}
use Rattle.mpc_law_lines.specs.TreeReading.{owed_under, ReadsLeafNode, LeafOutcome, named_node_at, named_nodes, named_tree_nodes}
use Rattle.mpc_law_lines.specs.PlaneReading.{IsNoSplit}
use Rattle.mpc_law_lines.proofs.TreeReading.{NodesRead, no_node, depth_small, node_more, node_fails, node_shrinks, nodes_read, split_reads, split_none, leaf_reads, leaf_fails, IsLeafOf}

-- ---- one node, whose line is taken
module _ (plant : Plant) (laws : ℕ) (ps : List RowInt) (used depth : ℕ) (here between : Cursor) (text : List ℕ) (number : ℕ) (number_is : number ≡ here.number) (taken : TakesLine here text between) where
  abbrev answer_of : NodeOver ℕ → Node × ℕ
  answer_of n = (node_of (plane_named ps) n, used_with used n)

  pub named_split_reads : (k : ℕ) (row : RowInt) (then : ℕ) → IsNumber (codes "split") (IsNext (length ps) used) text k → row ≡ plane_named ps k → then ≡ cond (nat_lt used k) k used → (named_node_at plant laws ps used depth).Reads here (Split row, then) between
  named_split_reads k row then names e t =
      split_reads plant laws depth (named_split (length ps) used) answer_of here between text number number_is taken k (Split row, then) names (λ over. over) (λ i. (Split (e i), t i))

  pub named_split_none : NamesNone (codes "split") (IsNext (length ps) used) text → (named_node_at plant laws ps used depth).Fails here BadNode number
  named_split_none none = split_none plant laws depth (named_split (length ps) used) answer_of here between text number number_is taken none

  leaf_is : (node : Node) (x : NodeOver ℕ) → IsLeafOf node x → (let r : Node × ℕ = (node, used) in r) ≡ answer_of x
  leaf_is node (split_node row) e = absurd e
  leaf_is node (law_node j cs) e = λ i. (e i, used)
  leaf_is node (no_move_node c) e = λ i. (e i, used)

  module _ (none : IsNoSplit (length ps) used text) (behind : Cursor) where
    pub named_leaf_reads : (node : Node) → ReadsLeafNode plant laws depth text between behind node → (named_node_at plant laws ps used depth).Reads here (node, used) behind
    named_leaf_reads node h = leaf_reads plant laws depth (named_split (length ps) used) answer_of here between text number number_is taken none.no_plane none.no_number behind node (node, used) h (leaf_is node)

    leaf_error_by : (error : FileError) → LeafOutcome plant laws depth text number between behind (Err error) → Outcome (named_node_at plant laws ps used depth) here behind (Err error)
    leaf_error_by (Bad kind place) h = leaf_fails plant laws depth (named_split (length ps) used) answer_of here between text number number_is taken none.no_plane none.no_number behind kind place h
    leaf_error_by NoMemory h = tt

    pub named_leaf_error : (answer : Result (Node × ℕ) FileError) (error : FileError) → LeafOutcome plant laws depth text number between behind (Err error) → IsErrAnd answer (λ e. e ≡ error) → Outcome (named_node_at plant laws ps used depth) here behind answer
    named_leaf_error (Ok node) error h e = absurd e
    named_leaf_error (Err told) error h e = subst (λ x. Outcome (named_node_at plant laws ps used depth) here behind (Err x)) (sym e) (leaf_error_by error h)

-- ---- all of them
pub named_text : (all used : ℕ) (text : List ℕ) (k : ℕ) → IsNumber (codes "split") (IsNext all used) text k → 1 ≤ length text
named_text all used text k is = subst (λ t. 1 ≤ length t) (sym is.spelled) (omega arith)

module _ (plant : Plant) (laws : ℕ) (ps : List RowInt) where
  abbrev split : List (NodeOver ℕ) → LineRule ℕ
  split before = named_split (length ps) (planes_used before)

  -- a node owes what its form does
  named_owes : (x : NodeOver ℕ) (d : ℕ) (ds : List ℕ) → owed_behind x (d ∷ ds) ≡ owed_under (node_of (plane_named ps) x) d ds
  named_owes (split_node row) d ds = refl
  named_owes (law_node j cs) d ds = refl
  named_owes (no_move_node c) d ds = refl

  -- these nodes are read, which use so many planes
  pub record NamedRead (here behind : Cursor) (tree : List Node) (owing : List ℕ) (used : ℕ) : Type 0 where
    pub nodes : NodesRead plant laws (λ before. named_split (length ps) (planes_used before)) (node_of (plane_named ps)) here behind tree owing
    pub used_is : used ≡ planes_used nodes.ns

  pub named_none : (here : Cursor) (tree : List Node) (owing : List ℕ) → tree ≡ [] → owing ≡ 0 ∷ [] → NamedRead here here tree owing 0
  unfolding no_node
  named_none here tree owing e f = record { nodes = no_node plant laws split (node_of (plane_named ps)) here tree owing e f; used_is = refl }

  module _ (here between : Cursor) (tree : List Node) (owing depths : List ℕ) (depth used : ℕ) (r : NamedRead here between tree owing used) (at : owing ≡ depth ∷ depths) where
    pub named_small : length here.rest < 2 ^ 64 → depth < 2 ^ 63
    named_small room = depth_small plant laws split (node_of (plane_named ps)) here between tree owing depths depth r.nodes at (λ before. named_text (length ps) (planes_used before)) room

    pub named_more : (x : NodeOver ℕ) (behind : Cursor) → (node_at plant laws (named_split (length ps) used) depth).Reads between x behind
        → (node : Node) (more : List Node) (then : List ℕ) (used_then : ℕ) → node ≡ node_of (plane_named ps) x → more ≡ tree ++ node ∷ [] → then ≡ owed_under node depth depths → used_then ≡ used_with used x → NamedRead here behind more then used_then
    unfolding node_more
    named_more x behind reads node more then used_then e m t u =
        record {
          nodes = node_more plant laws split (node_of (plane_named ps)) here between tree owing depths depth r.nodes at named_owes x behind (subst (λ n. (node_at plant laws (named_split (length ps) n) depth).Reads between x behind) r.used_is reads) node more then e m t;
          used_is = u ∙ ap (λ n. used_with n x) r.used_is ∙ sym (fold-append used_with 0 r.nodes.ns (x ∷ []));
        }

    node_error_by : (error : FileError) (behind end : Cursor) → Outcome (named_node_at plant laws ps used depth) between behind (Err error) → Outcome (named_nodes plant laws ps) here end (Err error)
    node_error_by (Bad kind number) behind end (inl h) =
        let give_all : List (NodeOver ℕ) → Grammar (List Node × ℕ) = λ ns. give (map (node_of (plane_named ps)) ns, planes_used ns) in
        node_fails plant laws split (node_of (plane_named ps)) here between tree owing depths depth r.nodes at give_all kind number
        (subst (λ n. (node_at plant laws (named_split (length ps) n) depth).Fails between kind number) r.used_is h)
    node_error_by (Bad kind number) behind end (inr h) = absurd h.1.1.1
    node_error_by NoMemory behind end h = tt

    pub named_node_error : (answer : Result (List Node × ℕ) FileError) (error : FileError) (behind end : Cursor) → Outcome (named_node_at plant laws ps used depth) between behind (Err error) → IsErrAnd answer (λ e. e ≡ error) → Outcome (named_nodes plant laws ps) here end answer
    named_node_error (Ok node) error behind end h e = absurd e
    named_node_error (Err told) error behind end h e = subst (λ x. Outcome (named_nodes plant laws ps) here end (Err x)) (sym e) (node_error_by error behind end h)

  pub named_all : (here behind : Cursor) (tree : List Node) (owing : List ℕ) (used : ℕ) (r : NamedRead here behind tree owing used) → owing ≡ [] → (named_nodes plant laws ps).Reads here (tree, used) behind
  named_all here behind tree owing used r e =
      (r.nodes.ns, (behind, (nodes_read plant laws split (node_of (plane_named ps)) here behind tree owing r.nodes e, ((λ i. (r.nodes.tree_is i, r.used_is i)), refl))))

-- ---- parts of the readers' answers
pub named_given : (plant : Plant) (laws : ℕ) (ps : List RowInt) (used depth : ℕ) (here behind : Cursor) (y : Node × ℕ) (h : (named_node_at plant laws ps used depth).Reads here y behind) → (node_at plant laws (named_split (length ps) used) depth).Reads here h.0 behind
named_given plant laws ps used depth here behind y h = subst (λ b. (node_at plant laws (named_split (length ps) used) depth).Reads here h.0 b) (sym h.1.1.1.1) h.1.1.0

pub named_shrinks : (plant : Plant) (laws : ℕ) (ps : List RowInt) (used depth : ℕ) (here behind : Cursor) (y : Node × ℕ) → (named_node_at plant laws ps used depth).Reads here y behind → length behind.rest < length here.rest
named_shrinks plant laws ps used depth here behind y h =
    let less = node_shrinks plant laws (named_split (length ps) used) (named_text (length ps) used) depth here h.0 behind (named_given plant laws ps used depth here behind y h) in
    omega (arith, less)

pub next_used : (used k then : ℕ) → used < k → then ≡ k → then ≡ cond (nat_lt used k) k used
next_used used k then h e = grind (arith, nat_tests)

pub same_used : (used k then : ℕ) → k ≤ used → then ≡ used → then ≡ cond (nat_lt used k) k used
same_used used k then h e = grind (arith, nat_tests)

-- the nodes below their word
pub tree_answer : (plant : Plant) (laws : ℕ) (ps : List RowInt) (here between behind : Cursor) (u : Unit {0}) (r : Result (List Node × ℕ) FileError) → (one_line (plain_rule (IsWord (codes "tree")))).Reads here u between → Outcome (named_nodes plant laws ps) between behind r → Outcome (named_tree_nodes plant laws ps) here behind r
tree_answer plant laws ps here between behind u (Ok y) word h = (h.0, (h.1.0, ((u, (between, (word, (h.0, (h.1.0, (h.1.1.0, (refl, refl))))))), h.1.1.1)))
tree_answer plant laws ps here between behind u (Err (Bad kind number)) word (inl h) = inl (inr (u, (between, (word, inl h))))
tree_answer plant laws ps here between behind u (Err (Bad kind number)) word (inr h) = absurd h.1.1.1
tree_answer plant laws ps here between behind u (Err NoMemory) word h = tt

-- The lines of a search tree: its nodes in preorder, each with the certificates of its leaf. In versions 1 and 2 a split's row stands in its
-- line. In version 3 the different rows stand before the tree as planes, numbered from 1 in the order in which the splits use them first.
use Rattle.std.specs.Prelude.{is_some, slice_get, ◌<◌, ◌^◌, ◌≡◌, ℕ, ◌+◌, ◌-◌, ◌≤◌, ◌⊎◌, nat_lt, cond, pos, List, [], ◌∷◌, ◌++◌, length, map, fold, All, codes, slice_index_or}
use Rattle.mpc_exact.specs.Rational.{ℚ}
use Rattle.mpc_linear.specs.declared.integers.RowInt.{RowInt}
use Rattle.mpc_linear.specs.Whole.{DividesAll, AreSmall}
use Rattle.mpc_plant.specs.Limits.{IsFromTo}
use Rattle.mpc_plant.specs.declared.plants.Plant.{Plant}
use Rattle.mpc_rows.specs.declared.trees.Node.{Node}
use Rattle.mpc_rows.specs.declared.trees.Node.TheVariants.{Split, Law as LawLeaf, NoMove}
use Rattle.mpc_words.specs.Numerals.{numeral}
use Rattle.mpc_controller.specs.Parts.{limits_of, row_count}
use Rattle.mpc_controller.specs.Certificates.{IsCertOver, cell_rows}
use Rattle.mpc_controller.specs.Bounds.{SplitFits}
use Rattle.mpc_grammar.specs.Reading.{LineRule, Grammar, one_line, give, ◌>>=◌, many}
use Rattle.mpc_words.specs.Words.{line}
use Rattle.mpc_grammar.specs.Lines.{count_line, integers_line, cert_line}
use Rattle.mpc_grammar.specs.PlantGrammar.{AllFit, plain_rule, so_many, IsNumber, UsesAll, StatesNew}

-- ---- rows
-- a row on states of n entries, in whole numbers
pub record IsRowOf (name : List ℕ) (n : ℕ) (text : List ℕ) (row : RowInt) : Type 0 where
  pub spelled : text ≡ integers_line name (row.a ++ row.b ∷ [])
  pub size : length row.a ≡ n
  pub small : AreSmall (row.a ++ row.b ∷ [])

-- it weighs some entry of the state, and no number above 1 divides all of its numbers
pub record IsPlane (row : RowInt) : Type 0 where
  pub some : ¬ All (λ z. z ≡ pos 0) row.a
  pub no_divisor : (d : ℕ) → DividesAll d (row.a ++ row.b ∷ []) → d ≡ 1

pub record IsPlaneLine (name : List ℕ) (n : ℕ) (text : List ℕ) (row : RowInt) : Type 0 where
  pub row_is : IsRowOf name n text row
  pub plane : IsPlane row

-- a well spelled row that is no plane
abbrev pub IsNoPlane : List ℕ → ℕ → List ℕ → Type 0
IsNoPlane name n text = (row : RowInt) × (IsRowOf name n text row × (¬ IsPlane row))

-- a well spelled line of one number that names nothing
abbrev pub NamesNone : List ℕ → (ℕ → Type 0) → List ℕ → Type 0
NamesNone name IsNamed text = (k : ℕ) × ((text ≡ line name (numeral k ∷ [])) × (¬ IsNamed k))

-- ---- certificates
pub record IsCertLine (rows : ℕ) (text : List ℕ) (cert : List (ℕ × ℚ)) : Type 0 where
  pub spelled : text ≡ cert_line cert
  pub cert_is : IsCertOver rows cert
  pub fits : AllFit (map (λ entry. entry.1) cert)

abbrev pub certs : ℕ → ℕ → Grammar (List (List (ℕ × ℚ)))
certs rows count = so_many count (plain_rule (IsCertLine rows))

-- ---- nodes
-- what the line of a node states: a split, whose row is written out or named, a law, or that there is no move
pub data NodeLine (Row : Type 0) : Type 0 where
  split_at : Row → NodeLine Row
  leaf_of : ℕ → NodeLine Row
  no_move : NodeLine Row

-- so many laws, and which lines state a split
pub data StatesNode {Row : Type 0} (laws : ℕ) (StatesSplit : List ℕ → Row → Type 0) (text : List ℕ) : NodeLine Row → Type 0 where
  splits : (row : Row) → StatesSplit text row → StatesNode laws StatesSplit text (split_at row)
  names_law : (j : ℕ) → text ≡ count_line (codes "leaf") j → IsFromTo 1 laws j → StatesNode laws StatesSplit text (leaf_of j)
  has_none : text ≡ codes "none" → StatesNode laws StatesSplit text no_move

abbrev pub IsOverSplit : {Row : Type 0} → (Row → Type 0) → NodeLine Row → Type 0
IsOverSplit over (split_at row) = over row
IsOverSplit over leaf = ⊥

abbrev pub node_rule : {Row : Type 0} → ℕ → LineRule Row → LineRule (NodeLine Row)
node_rule laws split =
    record {
      States = StatesNode laws split.States;
      IsNoNode = λ text. split.IsNoNode text ⊎ NamesNone (codes "leaf") (IsFromTo 1 laws) text;
      IsOver = IsOverSplit split.IsOver;
    }

-- a node of a tree, whose splits have such rows
pub data NodeOver (Row : Type 0) : Type 0 where
  split_node : Row → NodeOver Row
  law_node : ℕ → List (List (ℕ × ℚ)) → NodeOver Row
  no_move_node : List (ℕ × ℚ) → NodeOver Row

-- the node, with the row of a split
abbrev pub node_of : {Row : Type 0} → (Row → RowInt) → NodeOver Row → Node
node_of row_of (split_node row) = Split (row_of row)
node_of row_of (law_node j cs) = LawLeaf j cs
node_of row_of (no_move_node c) = NoMove c

-- the certificates behind the line of a node at a depth: under so many splits
abbrev pub node_behind : {Row : Type 0} → Plant → ℕ → NodeLine Row → Grammar (NodeOver Row)
node_behind plant depth (split_at row) = give (split_node row)
node_behind plant depth (leaf_of j) = certs (cell_rows plant.n depth + 1) (row_count plant) >>= λ cs. give (law_node j cs)
node_behind plant depth no_move = one_line (plain_rule (IsCertLine (cell_rows plant.n depth + row_count plant))) >>= λ c. give (no_move_node c)

abbrev pub node_at : {Row : Type 0} → Plant → ℕ → LineRule Row → ℕ → Grammar (NodeOver Row)
node_at plant laws split depth = one_line (node_rule laws split) >>= node_behind plant depth

-- the depths at which nodes are still owed, the next one first: a split owes two nodes in place of its own
abbrev pub owed_behind : {Row : Type 0} → NodeOver Row → List ℕ → List ℕ
owed_behind node [] = []
owed_behind (split_node row) (depth ∷ depths) = (depth + 1) ∷ (depth + 1) ∷ depths
owed_behind leaf (depth ∷ depths) = depths

abbrev pub owed : {Row : Type 0} → List (NodeOver Row) → List ℕ
owed nodes = fold (λ depths node. owed_behind node depths) (0 ∷ []) nodes

-- the nodes until none is owed; the rule of a split may depend on the nodes before it
abbrev pub nodes : {Row : Type 0} → Plant → ℕ → (List (NodeOver Row) → LineRule Row) → Grammar (List (NodeOver Row))
nodes {Row} plant laws split = many (λ before. node_at plant laws (split before) (slice_index_or (owed before) 0 0)) (λ (before : List (NodeOver Row)). is_some (slice_get (owed before) 0))

-- ---- splits whose rows are written out
abbrev pub written_split : Plant → LineRule RowInt
written_split plant = record { States = IsPlaneLine (codes "split") plant.n; IsNoNode = IsNoPlane (codes "split") plant.n; IsOver = λ row. ¬ SplitFits (limits_of plant) row }

abbrev pub IsWord : List ℕ → List ℕ → Unit {0} → Type 0
IsWord word text u = text ≡ word

abbrev pub written_tree : Plant → ℕ → Grammar (List Node)
written_tree plant laws = one_line (plain_rule (IsWord (codes "tree"))) >>= λ u. nodes plant laws (λ before. written_split plant) >>= λ ns. give (map (node_of (λ row. row)) ns)

-- ---- planes that are named
abbrev pub plane_rule : Plant → List RowInt → LineRule RowInt
plane_rule plant before = record { States = StatesNew before (IsPlaneLine (codes "plane") plant.n); IsNoNode = IsNoPlane (codes "plane") plant.n; IsOver = λ row. ¬ SplitFits (limits_of plant) row }

-- their number stands behind laws that use all forms
abbrev pub planes : Plant → ℕ → ℕ → Grammar (List RowInt)
planes plant all used =
    one_line (plain_rule (UsesAll all used (IsNumber (codes "planes") (λ number. number < 10 ^ 18)))) >>= λ count. many (λ before. one_line (plane_rule plant before)) (λ (before : List RowInt). nat_lt (length before) count)

-- how many planes the splits use
abbrev pub used_with : ℕ → NodeOver ℕ → ℕ
used_with used (split_node k) = cond (nat_lt used k) k used
used_with used leaf = used

abbrev pub planes_used : List (NodeOver ℕ) → ℕ
planes_used nodes = fold used_with 0 nodes

-- a number from 1 to that of all planes, and at most the next one that isn't used
abbrev pub IsNext : ℕ → ℕ → ℕ → Type 0
IsNext all used k = (1 ≤ k) × (k ≤ all) × (k ≤ used + 1)

abbrev pub named_split : ℕ → ℕ → LineRule ℕ
named_split all used = record { States = IsNumber (codes "split") (IsNext all used); IsNoNode = NamesNone (codes "split") (IsNext all used); IsOver = λ k. ⊥ }

abbrev pub plane_named : List RowInt → ℕ → RowInt
plane_named ps k = slice_index_or ps (k - 1) (record { a = []; b = pos 0 })

abbrev pub named_tree : Plant → ℕ → List RowInt → Grammar (List (NodeOver ℕ))
named_tree plant laws ps =
    one_line (plain_rule (IsWord (codes "tree"))) >>= λ u. nodes plant laws (λ before. named_split (length ps) (planes_used before)) >>= λ ns. give ns

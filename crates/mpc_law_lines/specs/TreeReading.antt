-- What the functions know that read the lines of a search tree.
use Rattle.std.specs.Prelude.{◌≡◌, ◌≢◌, ℕ, ◌+◌, nat_lt, pos, List, [], ◌∷◌, length, map, codes, Result, Ok, Err}
use Rattle.mpc_exact.specs.Rational.{ℚ, int}
use Rattle.mpc_linear.specs.declared.integers.RowInt.{RowInt}
use Rattle.mpc_plant.specs.Limits.{IsFromTo}
use Rattle.mpc_plant.specs.declared.plants.Plant.{Plant}
use Rattle.mpc_rows.specs.declared.trees.Node.{Node}
use Rattle.mpc_rows.specs.declared.trees.Node.TheVariants.{Split, Law as LawLeaf, NoMove}
use Rattle.mpc_controller.specs.Parts.{row_count}
use Rattle.mpc_controller.specs.Certificates.{cell_rows}
use Rattle.mpc_controller.specs.Bounds.{SplitFits}
use Rattle.mpc_grammar.specs.declared.errors.FileKind.{FileKind}
use Rattle.mpc_grammar.specs.declared.errors.FileKind.TheVariants.{BadLine, BadNode}
use Rattle.mpc_grammar.specs.declared.errors.FileError.{FileError}
use Rattle.mpc_grammar.specs.declared.errors.FileError.TheVariants.{Bad, NoMemory}
use Rattle.mpc_law_lines.specs.declared.tree_lines.PlaneLine.{PlaneLine}
use Rattle.mpc_law_lines.specs.declared.tree_lines.PlaneLine.TheVariants.{Plane, NoPlane, Wide, NoRow}
use Rattle.mpc_law_lines.specs.declared.tree_lines.LeafLine.{LeafLine}
use Rattle.mpc_law_lines.specs.declared.tree_lines.LeafLine.TheVariants.{Law, Nothing, NoLaw, NoLeaf}
use Rattle.mpc_grammar.specs.Reading.{Cursor, Grammar, one_line, give, ◌>>=◌, many}
use Rattle.mpc_grammar.specs.Lines.{count_line}
use Rattle.mpc_grammar.specs.PlantGrammar.{plain_rule}
use Rattle.mpc_grammar.specs.TreeGrammar.{IsRowOf, IsPlane, IsPlaneLine, plane_rule, IsNoPlane, IsCertLine, NamesNone, certs, nodes, node_at, written_split, named_split, planes_used, used_with, named_tree, node_of, plane_named}

-- ---- certificates
-- the position of a row, as a fraction, and its multiplier
abbrev pub pair_fractions : (ℕ × ℚ) → List ℚ
pair_fractions pair = int (pos pair.0) ∷ pair.1 ∷ []

-- ---- lines
-- what a line is as that of a plane
abbrev pub ReadsPlane : List ℕ → ℕ → List ℕ → List ℕ → PlaneLine → Type 0
ReadsPlane name n counts text (Plane row) = IsPlaneLine name n text row × SplitFits counts row
ReadsPlane name n counts text NoPlane = IsNoPlane name n text
ReadsPlane name n counts text Wide = (row : RowInt) × (IsPlaneLine name n text row × (¬ SplitFits counts row))
ReadsPlane name n counts text NoRow = (row : RowInt) → ¬ IsRowOf name n text row

-- what a row is as a plane
abbrev pub IsPlaneOf : List ℕ → RowInt → PlaneLine → Type 0
IsPlaneOf counts row (Plane plane) = (plane ≡ row) × IsPlane row × SplitFits counts row
IsPlaneOf counts row NoPlane = ¬ IsPlane row
IsPlaneOf counts row Wide = IsPlane row × (¬ SplitFits counts row)
IsPlaneOf counts row NoRow = ⊥

-- the line names the law with this number, of so many
pub record NamesLaw (laws : ℕ) (text : List ℕ) (j : ℕ) : Type 0 where
  pub spelled : text ≡ count_line (codes "leaf") j
  pub is_law : IsFromTo 1 laws j

-- the line is no leaf's
pub record IsNoLeaf (laws : ℕ) (text : List ℕ) : Type 0 where
  pub no_law : (j : ℕ) → ¬ NamesLaw laws text j
  pub not_none : text ≢ codes "none"
  pub no_number : ¬ NamesNone (codes "leaf") (IsFromTo 1 laws) text

-- what a line is as that of a leaf
abbrev pub ReadsLeaf : ℕ → List ℕ → LeafLine → Type 0
ReadsLeaf laws text (Law j) = NamesLaw laws text j
ReadsLeaf laws text Nothing = text ≡ codes "none"
ReadsLeaf laws text NoLaw = NamesNone (codes "leaf") (IsFromTo 1 laws) text
ReadsLeaf laws text NoLeaf = IsNoLeaf laws text

-- ---- leaves
abbrev pub law_certs : Plant → ℕ → Grammar (List (List (ℕ × ℚ)))
law_certs plant depth = certs (cell_rows plant.n depth + 1) (row_count plant)

abbrev pub no_move_cert : Plant → ℕ → Grammar (List (ℕ × ℚ))
no_move_cert plant depth = one_line (plain_rule (IsCertLine (cell_rows plant.n depth + row_count plant)))

-- the line of a leaf and the certificates behind it state this node
abbrev pub ReadsLeafNode : Plant → ℕ → ℕ → List ℕ → Cursor → Cursor → Node → Type 0
ReadsLeafNode plant laws depth text here behind (Split row) = ⊥
ReadsLeafNode plant laws depth text here behind (LawLeaf j cs) = NamesLaw laws text j × (law_certs plant depth).Reads here cs behind
ReadsLeafNode plant laws depth text here behind (NoMove c) = (text ≡ codes "none") × (no_move_cert plant depth).Reads here c behind

-- the line, of this number, is no leaf's, or the certificates behind it fail
pub data FailsLeafNode (plant : Plant) (laws depth : ℕ) (text : List ℕ) (number : ℕ) (here : Cursor) : FileKind → ℕ → Type 0 where
  names_none : NamesNone (codes "leaf") (IsFromTo 1 laws) text → FailsLeafNode plant laws depth text number here BadNode number
  is_other : IsNoLeaf laws text → FailsLeafNode plant laws depth text number here BadLine number
  certs_fail : (j : ℕ) (kind : FileKind) (place : ℕ) → NamesLaw laws text j → (law_certs plant depth).Fails here kind place → FailsLeafNode plant laws depth text number here kind place
  cert_fails : (kind : FileKind) (place : ℕ) → text ≡ codes "none" → (no_move_cert plant depth).Fails here kind place → FailsLeafNode plant laws depth text number here kind place

-- what a reader of a leaf answers, whose line is taken
abbrev pub LeafOutcome : Plant → ℕ → ℕ → List ℕ → ℕ → Cursor → Cursor → Result Node FileError → Type 0
LeafOutcome plant laws depth text number here behind (Ok node) = ReadsLeafNode plant laws depth text here behind node
LeafOutcome plant laws depth text number here behind (Err (Bad kind place)) = FailsLeafNode plant laws depth text number here kind place
LeafOutcome plant laws depth text number here behind (Err NoMemory) = Unit {0}

-- ---- nodes
-- the depths at which nodes are owed behind a node at a depth
abbrev pub owed_under : Node → ℕ → List ℕ → List ℕ
owed_under (Split row) depth depths = (depth + 1) ∷ (depth + 1) ∷ depths
owed_under (LawLeaf j cs) depth depths = depths
owed_under (NoMove c) depth depths = depths

-- one node whose split is written out
abbrev pub written_node_at : Plant → ℕ → ℕ → Grammar Node
written_node_at plant laws depth = node_at plant laws (written_split plant) depth >>= λ n. give ((node_of (λ row. row)) n)

-- all of them
abbrev pub written_nodes : Plant → ℕ → Grammar (List Node)
written_nodes plant laws = nodes plant laws (λ before. written_split plant) >>= λ ns. give (map (node_of (λ row. row)) ns)

-- one node whose split is named, behind so many planes that are used, and how many are used then
abbrev pub named_node_at : Plant → ℕ → List RowInt → ℕ → ℕ → Grammar (Node × ℕ)
named_node_at plant laws ps used depth = node_at plant laws (named_split (length ps) used) depth >>= λ n. give (node_of (plane_named ps) n, used_with used n)

-- all of them, and how many planes they use
abbrev pub named_nodes : Plant → ℕ → List RowInt → Grammar (List Node × ℕ)
named_nodes plant laws ps = nodes plant laws (λ before. named_split (length ps) (planes_used before)) >>= λ ns. give (map (node_of (plane_named ps)) ns, planes_used ns)

-- the tree with the words above it
abbrev pub named_tree_nodes : Plant → ℕ → List RowInt → Grammar (List Node × ℕ)
named_tree_nodes plant laws ps = named_tree plant laws ps >>= λ ns. give (map (node_of (plane_named ps)) ns, planes_used ns)

-- so many planes
abbrev pub plane_rows : Plant → ℕ → Grammar (List RowInt)
plane_rows plant count = many (λ before. one_line (plane_rule plant before)) (λ (before : List RowInt). nat_lt (length before) count)

-- Planes that are named by their numbers, and the text of the nodes that name them.
use Rattle.std.specs.Prelude.{◌≡◌, ℕ, ◌+◌, ◌^◌, ◌<◌, ◌≤◌, List, [], ◌∷◌, ◌++◌, length, map, All, codes}
use Rattle.std.specs.List.{flat_map}
use Rattle.mpc_exact.specs.Rational.{ℚ}
use Rattle.mpc_linear.specs.declared.integers.RowInt.{RowInt}
use Rattle.mpc_plant.specs.declared.plants.Plant.{Plant}
use Rattle.mpc_rows.specs.declared.trees.Node.{Node}
use Rattle.mpc_rows.specs.declared.trees.Node.TheVariants.{Split, Law as LawLeaf, NoMove}
use Rattle.mpc_controller.specs.Parts.{limits_of, IsSplitRow}
use Rattle.mpc_controller.specs.Bounds.{SplitFits}
use Rattle.mpc_grammar.specs.WrittenFits.{CertFits}
use Rattle.mpc_grammar.specs.Lines.{count_line, integers_line, cert_line}
use Rattle.mpc_grammar.specs.TreeGrammar.{NodeOver, used_with, planes_used, node_of, plane_named}
use Rattle.mpc_grammar.specs.TreeGrammar.NodeOver.{split_node, law_node, no_move_node}
use Rattle.mpc_writing.specs.Writing.{ended, text_of_lines}
use Rattle.mpc_writing.specs.Names.{AreDifferent}

abbrev pub plane_line : RowInt → List ℕ
plane_line row = integers_line (codes "plane") (row.a ++ row.b ∷ [])

-- a row that may split a controller's tree
pub record IsGoodPlane (plant : Plant) (row : RowInt) : Type 0 where
  pub is_row : IsSplitRow plant.n row
  pub fits : SplitFits (limits_of plant) row

abbrev pub IsGoodNode : Plant → Node → Type 0
IsGoodNode plant (Split row) = IsGoodPlane plant row
IsGoodNode plant (LawLeaf law certs) = Unit {0}
IsGoodNode plant (NoMove cert) = Unit {0}

-- the lines that are named are those of these planes
pub record ArePlanes (plant : Plant) (AreNamed : List (List ℕ) → Type 0) (planes : List RowInt) : Type 0 where
  pub names_are : AreNamed (map plane_line planes)
  pub good : All (IsGoodPlane plant) planes

abbrev pub CertsFit : NodeOver ℕ → Type 0
CertsFit (split_node k) = Unit {0}
CertsFit (law_node j cs) = All CertFits cs
CertsFit (no_move_node c) = CertFits c

-- ---- nodes
abbrev pub certs_text : List (List (ℕ × ℚ)) → List ℕ
certs_text certs = flat_map (λ cert. ended (cert_line cert)) certs

abbrev pub leaf_text : ℕ → List (List (ℕ × ℚ)) → List ℕ
leaf_text law certs = ended (count_line (codes "leaf") law) ++ certs_text certs

abbrev pub bare_leaf_text : List (ℕ × ℚ) → List ℕ
bare_leaf_text cert = ended (codes "none") ++ ended (cert_line cert)

abbrev pub node_text : NodeOver ℕ → List ℕ
node_text (split_node k) = ended (count_line (codes "split") k)
node_text (law_node j cs) = leaf_text j cs
node_text (no_move_node c) = bare_leaf_text c

-- a split names a plane, the next one where it is new
abbrev pub NamesInOrder : ℕ → ℕ → NodeOver ℕ → Type 0
NamesInOrder all used (split_node k) = (1 ≤ k) × (k ≤ all) × (k ≤ used + 1)
NamesInOrder all used (law_node j cs) = Unit {0}
NamesInOrder all used (no_move_node c) = Unit {0}

abbrev pub PlanesInOrder : ℕ → ℕ → List (NodeOver ℕ) → Type 0
PlanesInOrder all used [] = Unit {0}
PlanesInOrder all used (node ∷ nodes) = NamesInOrder all used node × PlanesInOrder all (used_with used node) nodes

pub record IsNodeNumbered (plant : Plant) (planes : List RowInt) (node : Node) (old new : List ℕ) (AreNamed : List (List ℕ) → Type 0) : Type 0 where
  pub behind : List RowInt
  pub all : List RowInt
  pub all_are : all ≡ planes ++ behind
  pub named : NodeOver ℕ
  pub planes_are : ArePlanes plant AreNamed all
  pub node_is : node_of (plane_named all) named ≡ node
  pub text : new ≡ old ++ node_text named
  pub in_order : NamesInOrder (length all) (length planes) named
  pub used : used_with (length planes) named ≡ length all
  pub certs : CertsFit named

pub record AreNodesNumbered (plant : Plant) (nodes : List Node) (old new : List ℕ) (AreNamed : List (List ℕ) → Type 0) : Type 0 where
  pub planes : List RowInt
  pub named : List (NodeOver ℕ)
  pub planes_are : ArePlanes plant AreNamed planes
  pub nodes_are : map (node_of (plane_named planes)) named ≡ nodes
  pub text : new ≡ old ++ flat_map node_text named
  pub in_order : PlanesInOrder (length planes) 0 named
  pub used : planes_used named ≡ length planes
  pub certs : All CertsFit named

-- ---- the planes and the nodes
abbrev pub planes_text : List RowInt → List ℕ
planes_text planes = ended (count_line (codes "planes") (length planes)) ++ text_of_lines (map plane_line planes)

abbrev pub tree_text : List (NodeOver ℕ) → List ℕ
tree_text named = ended (codes "tree") ++ flat_map node_text named

-- the nodes are appended, and before them their different planes
pub record IsTreeWritten (plant : Plant) (nodes : List Node) (old new : List ℕ) : Type 0 where
  pub planes : List RowInt
  pub named : List (NodeOver ℕ)
  pub good : All (IsGoodPlane plant) planes
  pub different : AreDifferent (map plane_line planes)
  pub few : length planes < 10 ^ 18
  pub nodes_are : map (node_of (plane_named planes)) named ≡ nodes
  pub in_order : PlanesInOrder (length planes) 0 named
  pub used : planes_used named ≡ length planes
  pub certs : All CertsFit named
  pub text : new ≡ old ++ (planes_text planes ++ tree_text named)

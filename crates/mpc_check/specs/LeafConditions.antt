-- The conditions on the leaves of a search tree: that their certificates refute what they claim to have no point.
use Rattle.std.specs.Prelude.{◌≡◌, ℕ, ◌+◌, ◌≤◌, List, length, slice_get, Some}
use Rattle.mpc_exact.specs.Rational.{ℚ}
use Rattle.mpc_space.specs.Matrix.{height}
use Rattle.mpc_linear.specs.declared.integers.RowInt.{RowInt}
use Rattle.mpc_rows.specs.declared.programs.Qp.{Qp}
use Rattle.mpc_rows.specs.declared.laws.Law.{Law as LawOfSet}
use Rattle.mpc_rows.specs.declared.systems.Row.{Row}
use Rattle.mpc_rows.specs.declared.trees.Node.{Node}
use Rattle.mpc_rows.specs.declared.trees.Node.TheVariants.{Split, Law, NoMove}
use Rattle.mpc_rows.specs.declared.places.Place.TheVariants.{CheckLeaf}
use Rattle.mpc_rows.specs.LawRows.{IsLawRow, LawRowFits}
use Rattle.mpc_controller.specs.Replies.{IsLawNumbered}
use Rattle.mpc_check.specs.declared.answers.Spot.TheVariants.{LeafRow, Leaf}
use Rattle.mpc_systems.specs.Systems.{hold_system, joint_system}
use Rattle.mpc_controller.specs.Paths.{PathTo}
use Rattle.mpc_check.specs.Certs.{CertRefutes, CertFits}
use Rattle.mpc_check.specs.Findings.{Finding, IsMet, IsUnmet, Each, IsFirstOf, EachFrom, IsFirstFrom, IsFirstOfTwo}

-- ---- a leaf with a law: each row of the law, counted from 0, holds on the path's cell
-- the row has a certificate, which refutes the box, the path, and the row negated and strict
pub record RowHolds (qp : Qp) (path : List Row) (law : LawOfSet) (certs : List (List (ℕ × ℚ))) (i : ℕ) : Type 0 where
  pub row : RowInt
  pub is_row : IsLawRow qp law (i + 1) row
  pub cert : List (ℕ × ℚ)
  pub is_cert : slice_get certs i ≡ Some cert
  pub refutes : CertRefutes (hold_system qp path row) cert

-- the numbers that form the row fit, and then the certificate's sums, where there is one
pub record RowFits (qp : Qp) (path : List Row) (law : LawOfSet) (certs : List (List (ℕ × ℚ))) (i : ℕ) : Type 0 where
  pub row_fits : LawRowFits qp law (i + 1)
  pub sums_fit : (row : RowInt) (cert : List (ℕ × ℚ)) → IsLawRow qp law (i + 1) row → slice_get certs i ≡ Some cert → CertFits (hold_system qp path row) cert

abbrev pub LeafRowMet : Qp → List Row → LawOfSet → List (List (ℕ × ℚ)) → ℕ → Type 0
LeafRowMet qp path law certs i = IsMet (RowFits qp path law certs i) (RowHolds qp path law certs i)

abbrev pub LeafRowFinds : Qp → List Row → ℕ → LawOfSet → List (List (ℕ × ℚ)) → ℕ → Finding → Type 0
LeafRowFinds qp path number law certs i = IsUnmet (RowFits qp path law certs i) (RowHolds qp path law certs i) (LeafRow number (i + 1)) (CheckLeaf number (i + 1))

abbrev pub LawLeafMet : Qp → List Row → LawOfSet → List (List (ℕ × ℚ)) → Type 0
LawLeafMet qp path law certs = Each (LeafRowMet qp path law certs) (height qp.g)

abbrev pub LawLeafFinds : Qp → List Row → ℕ → LawOfSet → List (List (ℕ × ℚ)) → Finding → Type 0
LawLeafFinds qp path number law certs = IsFirstOf (LeafRowMet qp path law certs) (LeafRowFinds qp path number law certs) (height qp.g)

-- the leaf's law is that with the number which the leaf names
pub record FindsAtLaw (qp : Qp) (laws : List LawOfSet) (path : List Row) (number law_number : ℕ) (certs : List (List (ℕ × ℚ))) (finding : Finding) : Type 0 where
  pub law : LawOfSet
  pub is : IsLawNumbered laws law_number law
  pub finds : LawLeafFinds qp path number law certs finding

-- ---- a leaf without a law: the certificate refutes the box, the path, and the rows of the program
abbrev pub EmptyLeafMet : Qp → List Row → List (ℕ × ℚ) → Type 0
EmptyLeafMet qp path cert = IsMet (CertFits (joint_system qp path) cert) (CertRefutes (joint_system qp path) cert)

abbrev pub EmptyLeafFinds : Qp → List Row → ℕ → List (ℕ × ℚ) → Finding → Type 0
EmptyLeafFinds qp path number cert = IsUnmet (CertFits (joint_system qp path) cert) (CertRefutes (joint_system qp path) cert) (Leaf number) (CheckLeaf number 0)

-- ---- the node with this number, from 1, behind the rows of its path; nothing is asked of a split
abbrev pub NodeMet : Qp → List LawOfSet → List Row → Node → Type 0
NodeMet qp laws path (Split row) = Unit {0}
NodeMet qp laws path (Law law_number certs) = (law : LawOfSet) → IsLawNumbered laws law_number law → LawLeafMet qp path law certs
NodeMet qp laws path (NoMove cert) = EmptyLeafMet qp path cert

abbrev pub NodeFinds : Qp → List LawOfSet → List Row → ℕ → Node → Finding → Type 0
NodeFinds qp laws path number (Split row) finding = ⊥
NodeFinds qp laws path number (Law law_number certs) finding = FindsAtLaw qp laws path number law_number certs finding
NodeFinds qp laws path number (NoMove cert) finding = EmptyLeafFinds qp path number cert finding

-- ---- node by node in preorder, their places counted from 0
abbrev pub NodeAtMet : Qp → List LawOfSet → List Node → ℕ → Type 0
NodeAtMet qp laws nodes place = (path : List Row) (node : Node) → PathTo nodes place path → slice_get nodes place ≡ Some node → NodeMet qp laws path node

pub record NodeAtFinds (qp : Qp) (laws : List LawOfSet) (nodes : List Node) (place : ℕ) (finding : Finding) : Type 0 where
  pub path : List Row
  pub node : Node
  pub leads : PathTo nodes place path
  pub is : slice_get nodes place ≡ Some node
  pub finds : NodeFinds qp laws path (place + 1) node finding

abbrev pub TreeMet : Qp → List LawOfSet → List Node → Type 0
TreeMet qp laws nodes = Each (NodeAtMet qp laws nodes) (length nodes)

abbrev pub TreeFinds : Qp → List LawOfSet → List Node → Finding → Type 0
TreeFinds qp laws nodes = IsFirstOf (NodeAtMet qp laws nodes) (NodeAtFinds qp laws nodes) (length nodes)

-- ---- a stretch of neighbouring nodes
abbrev pub StretchMet : Qp → List LawOfSet → List Node → ℕ → ℕ → Type 0
StretchMet qp laws nodes = EachFrom (NodeAtMet qp laws nodes)

abbrev pub StretchFinds : Qp → List LawOfSet → List Node → ℕ → ℕ → Finding → Type 0
StretchFinds qp laws nodes = IsFirstFrom (NodeAtMet qp laws nodes) (NodeAtFinds qp laws nodes)

-- two neighbouring stretches are one: it is met where both are, and what is found of it is what is found of the first, or else of the second
abbrev pub StretchesAreMet : Type 0
StretchesAreMet =
    (qp : Qp) (laws : List LawOfSet) (nodes : List Node) (from middle to : ℕ) → StretchMet qp laws nodes from middle → StretchMet qp laws nodes middle to → StretchMet qp laws nodes from to

abbrev pub StretchesFind : Type 0
StretchesFind =
    (qp : Qp) (laws : List LawOfSet) (nodes : List Node) (from middle to : ℕ) (finding : Finding) → from ≤ middle → middle ≤ to
    → IsFirstOfTwo (StretchMet qp laws nodes from middle) (StretchFinds qp laws nodes from middle) (StretchFinds qp laws nodes middle to) finding → StretchFinds qp laws nodes from to finding

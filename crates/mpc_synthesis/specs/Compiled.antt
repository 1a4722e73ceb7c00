-- What is compiled of a plant, and what a check finds of it.
use Rattle.std.specs.Prelude.{◌≡◌, ℕ, ◌+◌, ◌<◌, ◌≤◌, ◌⊎◌, List, length, slice_get, slice_index, Some}
use Rattle.mpc_space.specs.Matrix.{height}
use Rattle.mpc_rows.specs.declared.programs.Qp.{Qp}
use Rattle.mpc_rows.specs.declared.laws.Law.{Law as LawOfSet}
use Rattle.mpc_rows.specs.declared.systems.Row.{Row}
use Rattle.mpc_rows.specs.declared.trees.Node.{Node}
use Rattle.mpc_rows.specs.declared.trees.Node.TheVariants.{Split, Law, NoMove}
use Rattle.mpc_rows.specs.declared.places.Place.{Place}
use Rattle.mpc_rows.specs.declared.places.Place.TheVariants.{CheckLaw, CheckLeaf}
use Rattle.mpc_rows.specs.Candidates.{IsTable}
use Rattle.mpc_tree.specs.Trees.{whole_box}
use Rattle.mpc_tree.specs.Certified.{IsCertified}
use Rattle.mpc_controller.specs.Parts.{Parts, row_count}
use Rattle.mpc_controller.specs.Walk.{IsLeaf}
use Rattle.mpc_controller.specs.Replies.{IsLawNumbered}
use Rattle.mpc_check.specs.declared.answers.Answer.{Answer}
use Rattle.mpc_check.specs.declared.answers.Answer.TheVariants.{Accepted}
use Rattle.mpc_condense.specs.declared.convex.ProgramError.{ProgramError}
use Rattle.mpc_condense.specs.declared.convex.ProgramError.TheVariants.{TooWide, NotDefinite, NoMemory}
use Rattle.mpc_condense.specs.Convex.{HasProgram, PivotsPass}
use Rattle.mpc_check.specs.Findings.{Finding, refused, too_wide, not_definite}
use Rattle.mpc_controller.specs.Paths.{PathTo}
use Rattle.mpc_systems.specs.Systems.{joint_system}
use Rattle.mpc_check.specs.Certs.{CertFits}
use Rattle.mpc_check.specs.LawConditions.{GradientFits, ActiveFits}
use Rattle.mpc_check.specs.LeafConditions.{RowFits}
use Rattle.mpc_check.specs.Acceptance.{Accepts, IsFound, IsAnswer, IsCause}

-- The program of the plant, whose numbers fit; positive pivots of its cost, whose numbers fit; the table of its laws; and the table's tree of
-- the whole box, with its certificates.
pub record IsCompiled (qp : Qp) (parts : Parts) : Type 0 where
  pub program : HasProgram parts.plant qp
  pub pivots : PivotsPass qp
  pub table : IsTable qp parts.laws
  pub tree : IsCertified qp parts.laws whole_box parts.tree

-- ---- what is found
-- the place of the conditions on a law, which stands in the table at an index from 0
pub record IsOfLaw (parts : Parts) (place : Place) : Type 0 where
  pub index : ℕ
  pub within : index < length parts.laws
  pub is : place ≡ CheckLaw (index + 1)

-- the place of a condition on a leaf, which stands in the tree at an index from 0: of a row of its law, or of the leaf as a whole
pub record IsOfLeaf (parts : Parts) (place : Place) : Type 0 where
  pub index : ℕ
  pub node : Node
  pub at : slice_get parts.tree index ≡ Some node
  pub is_leaf : IsLeaf node
  pub row : ℕ
  pub within : row ≤ row_count parts.plant
  pub is : place ≡ CheckLeaf (index + 1) row

abbrev pub IsOfLawOrLeaf : Parts → Place → Type 0
IsOfLawOrLeaf parts place = IsOfLaw parts place ⊎ IsOfLeaf parts place

-- a number is too wide, of a condition on a law or on a leaf; no condition fails, and no pivot
abbrev pub IsOfWidth : Parts → Finding → Type 0
IsOfWidth parts (refused spot) = ⊥
IsOfWidth parts (too_wide place) = IsOfLawOrLeaf parts place
IsOfWidth parts (not_definite step) = ⊥

abbrev pub OnlyWidthFound : Type 0
OnlyWidthFound = (qp : Qp) (parts : Parts) (finding : Finding) → IsCompiled qp parts → IsFound parts finding → IsOfWidth parts finding

-- ---- what a check answers
-- that the controller is accepted
abbrev pub NoRefusal : Type 0
NoRefusal = (qp : Qp) (parts : Parts) (answer : Answer) → IsCompiled qp parts → IsAnswer parts answer → answer ≡ Accepted

-- or an error: a number that is too wide, of a condition on a law or on a leaf, or no memory
abbrev pub IsWidthError : Parts → ProgramError → Type 0
IsWidthError parts (TooWide place) = IsOfLawOrLeaf parts place
IsWidthError parts (NotDefinite step) = ⊥
IsWidthError parts NoMemory = Unit {0}

abbrev pub OnlyWidthErrs : Type 0
OnlyWidthErrs = (qp : Qp) (parts : Parts) (error : ProgramError) → IsCompiled qp parts → IsCause parts error → IsWidthError parts error

-- ---- where all numbers fit
-- those of the sums over a law
pub record LawFits (qp : Qp) (law : LawOfSet) : Type 0 where
  pub gradients : (r c : ℕ) → r < height qp.h → c < length qp.counts + 1 → GradientFits qp law r c
  pub members : (k c : ℕ) → k < length law.set → c < length qp.counts + 1 → ActiveFits qp law (slice_index law.set k) c

abbrev pub LawsFit : Qp → List LawOfSet → Type 0
LawsFit qp laws = (place : ℕ) (law : LawOfSet) → slice_get laws place ≡ Some law → LawFits qp law

-- those of the sums over the certificates of a leaf behind the rows of its path
abbrev pub LeafFits : Qp → List LawOfSet → List Row → Node → Type 0
LeafFits qp laws path (Split row) = Unit {0}
LeafFits qp laws path (Law number certs) = (law : LawOfSet) (i : ℕ) → IsLawNumbered laws number law → i < height qp.g → RowFits qp path law certs i
LeafFits qp laws path (NoMove cert) = CertFits (joint_system qp path) cert

abbrev pub LeavesFit : Qp → List LawOfSet → List Node → Type 0
LeavesFit qp laws nodes = (place : ℕ) (path : List Row) (node : Node) → PathTo nodes place path → slice_get nodes place ≡ Some node → LeafFits qp laws path node

abbrev pub FittingIsAccepted : Type 0
FittingIsAccepted = (qp : Qp) (parts : Parts) → IsCompiled qp parts → LawsFit qp parts.laws → LeavesFit qp parts.laws parts.tree → Accepts parts

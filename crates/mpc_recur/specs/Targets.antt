-- The targets of the leaves of a search tree, in their order, and the systems that decide them. A leaf's system has the rows of the box, those
-- of the path to the leaf, and those that ask of the point behind one step that it is at the target.
use Rattle.std.specs.Prelude.{◌≡◌, ℕ, ◌+◌, List, [], ◌∷◌, ◌++◌, length, map, All, slice_get, slice_index, Some}
use Rattle.mpc_exact.specs.Rational.{ℚ}
use Rattle.mpc_plant.specs.declared.plants.Plant.{Plant}
use Rattle.mpc_rows.specs.declared.laws.Law.{Law as LawOfSet}
use Rattle.mpc_rows.specs.declared.systems.Row.{Row}
use Rattle.mpc_rows.specs.declared.trees.Node.{Node}
use Rattle.mpc_rows.specs.declared.trees.Node.TheVariants.{Split, Law, NoMove as NoMoveLeaf}
use Rattle.mpc_rows.specs.LinearSystem.{LinearSystem}
use Rattle.mpc_rows.specs.SetRuns.{box_rows}
use Rattle.mpc_systems.specs.Systems.{cell_system}
use Rattle.mpc_controller.specs.Parts.{Parts, limits_of}
use Rattle.mpc_controller.specs.Replies.{IsLawNumbered}
use Rattle.mpc_recur.specs.declared.answers.Target.{Target}
use Rattle.mpc_recur.specs.declared.answers.Target.TheVariants.{Low, High, NoMove}
use Rattle.mpc_recur.specs.declared.answers.Next.{Next}
use Rattle.mpc_controller.specs.Paths.{PathTo}
use Rattle.mpc_recur.specs.Forms.{next_form, next_forms, low_row, high_row, substituted, FormsFit, HighFits, SubstitutedFits}
use Rattle.mpc_recur.specs.Findings.{Finding, reached, too_wide, IsRuledOut, TargetFits, TargetFinds, Each, IsFirstOf, IsFirstOfTwo}

-- ---- systems, in the unknowns t
abbrev pub leaf_system : Plant → List Row → List Row → LinearSystem
leaf_system plant path last = cell_system plant.n (limits_of plant) path last

abbrev pub low_system : Plant → LawOfSet → List Row → ℕ → LinearSystem
low_system plant law path i = leaf_system plant path (low_row (next_form plant law i) ∷ [])

abbrev pub count_at : Plant → ℕ → ℕ
count_at plant i = slice_index (limits_of plant) i

abbrev pub high_system : Plant → LawOfSet → List Row → ℕ → LinearSystem
high_system plant law path i = leaf_system plant path (high_row (next_form plant law i) (count_at plant i) ∷ [])

-- the point behind one step meets the rows of the other path
abbrev pub met_system : Plant → LawOfSet → List Row → List Row → LinearSystem
met_system plant law path other = leaf_system plant path (map (substituted plant.n (next_forms plant law)) other)

-- the rows of the box and of the path, to which a target's rows are added
pub record IsBaseOf (plant : Plant) (path : List Row) (s : LinearSystem) : Type 0 where
  pub width : s.width ≡ plant.n
  pub rows : s.rows ≡ box_rows plant.n (limits_of plant) ++ path

abbrev pub with_rows : LinearSystem → List Row → LinearSystem
with_rows s last = record { width = s.width; rows = s.rows ++ last }

-- ---- what must fit
abbrev pub LowFits : Plant → LawOfSet → List Row → ℕ → Type 0
LowFits plant law path i = TargetFits (Unit {0}) (low_system plant law path i)

abbrev pub HighRowFits : Plant → LawOfSet → ℕ → Type 0
HighRowFits plant law i = HighFits (next_form plant law i) (count_at plant i)

abbrev pub RowsFit : Plant → LawOfSet → List Row → Type 0
RowsFit plant law other = All (SubstitutedFits plant.n (next_forms plant law)) other

-- ---- the targets of one leaf, the coordinates and the leaves without a law counted from 0
abbrev pub target_of : ℕ → Target → Next
target_of leaf target = record { leaf = leaf; target = target }

abbrev pub LowMet : Plant → LawOfSet → List Row → ℕ → Type 0
LowMet plant law path i = IsRuledOut (Unit {0}) (low_system plant law path i)

abbrev pub LowFinds : Plant → LawOfSet → List Row → ℕ → ℕ → Finding → Type 0
LowFinds plant law path leaf i = TargetFinds (Unit {0}) (low_system plant law path i) (target_of leaf (Low (i + 1)))

abbrev pub HighMet : Plant → LawOfSet → List Row → ℕ → Type 0
HighMet plant law path i = IsRuledOut (HighRowFits plant law i) (high_system plant law path i)

abbrev pub HighFinds : Plant → LawOfSet → List Row → ℕ → ℕ → Finding → Type 0
HighFinds plant law path leaf i = TargetFinds (HighRowFits plant law i) (high_system plant law path i) (target_of leaf (High (i + 1)))

-- first below coordinate i of the box, then above it
pub record SideMet (plant : Plant) (law : LawOfSet) (path : List Row) (i : ℕ) : Type 0 where
  pub low : LowMet plant law path i
  pub high : HighMet plant law path i

abbrev pub SideFinds : Plant → LawOfSet → List Row → ℕ → ℕ → Finding → Type 0
SideFinds plant law path leaf i = IsFirstOfTwo (LowMet plant law path i) (LowFinds plant law path leaf i) (HighFinds plant law path leaf i)

-- the leaf at place k, where it has no law; nothing is asked of other nodes
abbrev pub LeafMet : Plant → LawOfSet → List Row → List Row → Type 0
LeafMet plant law path other = IsRuledOut (RowsFit plant law other) (met_system plant law path other)

abbrev pub LeafFinds : Plant → LawOfSet → List Row → ℕ → ℕ → List Row → Finding → Type 0
LeafFinds plant law path leaf k other = TargetFinds (RowsFit plant law other) (met_system plant law path other) (target_of leaf (NoMove (k + 1)))

abbrev pub EmptyMet : Plant → List Node → LawOfSet → List Row → ℕ → Type 0
EmptyMet plant nodes law path k = (other : List Row) (cert : List (ℕ × ℚ)) → PathTo nodes k other → slice_get nodes k ≡ Some (NoMoveLeaf cert) → LeafMet plant law path other

pub record EmptyFinds (plant : Plant) (nodes : List Node) (law : LawOfSet) (path : List Row) (leaf k : ℕ) (finding : Finding) : Type 0 where
  pub other : List Row
  pub cert : List (ℕ × ℚ)
  pub leads : PathTo nodes k other
  pub is : slice_get nodes k ≡ Some (NoMoveLeaf cert)
  pub finds : LeafFinds plant law path leaf k other finding

-- the forms of the point behind one step belong to the leaf's first target
abbrev pub FormsFind : Plant → LawOfSet → ℕ → Finding → Type 0
FormsFind plant law leaf (reached found pairs) = ⊥
FormsFind plant law leaf (too_wide found) = (found ≡ target_of leaf (Low 1)) × ¬ FormsFit plant law

abbrev pub SidesMet : Plant → LawOfSet → List Row → Type 0
SidesMet plant law path = Each (SideMet plant law path) plant.n

abbrev pub SidesFind : Plant → LawOfSet → List Row → ℕ → Finding → Type 0
SidesFind plant law path leaf = IsFirstOf (SideMet plant law path) (SideFinds plant law path leaf) plant.n

abbrev pub EmptiesMet : Plant → List Node → LawOfSet → List Row → Type 0
EmptiesMet plant nodes law path = Each (EmptyMet plant nodes law path) (length nodes)

abbrev pub EmptiesFind : Plant → List Node → LawOfSet → List Row → ℕ → Finding → Type 0
EmptiesFind plant nodes law path leaf = IsFirstOf (EmptyMet plant nodes law path) (EmptyFinds plant nodes law path leaf) (length nodes)

-- all targets of the leaf: the coordinates in turn, and then the leaves without a law in preorder
pub record TargetsMet (plant : Plant) (nodes : List Node) (law : LawOfSet) (path : List Row) : Type 0 where
  pub forms : FormsFit plant law
  pub sides : SidesMet plant law path
  pub empties : EmptiesMet plant nodes law path

abbrev pub TargetsFind : Plant → List Node → LawOfSet → List Row → ℕ → Finding → Type 0
TargetsFind plant nodes law path leaf =
    IsFirstOfTwo (FormsFit plant law) (FormsFind plant law leaf) (IsFirstOfTwo (SidesMet plant law path) (SidesFind plant law path leaf) (EmptiesFind plant nodes law path leaf))

-- ---- the node with this number, from 1, behind the rows of its path; nothing is asked of a node without a law
abbrev pub NodeMet : Parts → List Row → Node → Type 0
NodeMet parts path (Split row) = Unit {0}
NodeMet parts path (Law number certs) = (law : LawOfSet) → IsLawNumbered parts.laws number law → TargetsMet parts.plant parts.tree law path
NodeMet parts path (NoMoveLeaf cert) = Unit {0}

-- the leaf's law is that with the number which the leaf names
pub record FindsAtLaw (parts : Parts) (path : List Row) (leaf number : ℕ) (finding : Finding) : Type 0 where
  pub law : LawOfSet
  pub is : IsLawNumbered parts.laws number law
  pub finds : TargetsFind parts.plant parts.tree law path leaf finding

abbrev pub NodeFinds : Parts → List Row → ℕ → Node → Finding → Type 0
NodeFinds parts path leaf (Split row) finding = ⊥
NodeFinds parts path leaf (Law number certs) finding = FindsAtLaw parts path leaf number finding
NodeFinds parts path leaf (NoMoveLeaf cert) finding = ⊥

-- ---- node by node in preorder, their places counted from 0
abbrev pub NodeAtMet : Parts → ℕ → Type 0
NodeAtMet parts place = (path : List Row) (node : Node) → PathTo parts.tree place path → slice_get parts.tree place ≡ Some node → NodeMet parts path node

pub record NodeAtFinds (parts : Parts) (place : ℕ) (finding : Finding) : Type 0 where
  pub path : List Row
  pub node : Node
  pub leads : PathTo parts.tree place path
  pub is : slice_get parts.tree place ≡ Some node
  pub finds : NodeFinds parts path (place + 1) node finding

-- each target of each leaf is ruled out
abbrev pub AllRuledOut : Parts → Type 0
AllRuledOut parts = Each (NodeAtMet parts) (length parts.tree)

-- of the first target that isn't ruled out this is found
abbrev pub IsFound : Parts → Finding → Type 0
IsFound parts = IsFirstOf (NodeAtMet parts) (NodeAtFinds parts) (length parts.tree)

-- ---- that nothing is too wide: of no target the forming or the run
pub record TargetsFit (plant : Plant) (nodes : List Node) (law : LawOfSet) (path : List Row) : Type 0 where
  pub forms : FormsFit plant law
  pub lows : Each (LowFits plant law path) plant.n
  pub highs : Each (λ i. TargetFits (HighRowFits plant law i) (high_system plant law path i)) plant.n
  pub empties : (k : ℕ) (other : List Row) (cert : List (ℕ × ℚ)) → PathTo nodes k other → slice_get nodes k ≡ Some (NoMoveLeaf cert) → TargetFits (RowsFit plant law other) (met_system plant law path other)

pub record NothingWide (parts : Parts) : Type 0 where
  pub fits : (place number : ℕ) (path : List Row) (certs : List (List (ℕ × ℚ))) (law : LawOfSet) → PathTo parts.tree place path → slice_get parts.tree place ≡ Some (Law number certs) → IsLawNumbered parts.laws number law
      → TargetsFit parts.plant parts.tree law path

-- Which runs at a node have no number that is too wide.
use Rattle.std.specs.Prelude.{◌≡◌, ℕ, ◌+◌, ◌<◌, ◌≤◌, List, length, Some, slice_get}
use Rattle.mpc_linear.specs.declared.integers.RowInt.{RowInt}
use Rattle.mpc_rows.specs.declared.programs.Qp.{Qp}
use Rattle.mpc_rows.specs.declared.laws.Law.{Law}
use Rattle.mpc_rows.specs.declared.systems.Row.{Row}
use Rattle.mpc_rows.specs.declared.trees.Node.{Node}
use Rattle.mpc_rows.specs.declared.trees.Node.TheVariants.{Split, Law as LawLeaf, NoMove}
use Rattle.mpc_rows.specs.RunWidth.{RunFits}
use Rattle.mpc_rows.specs.LawRows.{AreLawRows}
use Rattle.mpc_systems.specs.Systems.{meet_system, hold_system, joint_system}
use Rattle.mpc_tree.specs.Trees.{Cell, Divides, IsLeafOf, IsTreeWhere}

-- the search for a state of the cell in the law's region fits
pub record MeetFits (qp : Qp) (cell : List Row) (law : Law) : Type 0 where
  pub rows : List RowInt
  pub of_law : AreLawRows qp law rows
  pub fits : RunFits (meet_system qp cell rows)

-- and so it does for each law from the cell's next on, before this place
abbrev pub MeetsFit : Qp → List Law → Cell → ℕ → Type 0
MeetsFit qp laws cell upto = (i : ℕ) (law : Law) → cell.next ≤ i → i < upto → slice_get laws i ≡ Some law → MeetFits qp cell.rows law

-- the searches for a state of the cell where a row fails fit, for each row before this place
abbrev pub HoldsFit : Qp → List Row → List RowInt → ℕ → Type 0
HoldsFit qp cell rows upto = (i : ℕ) (row : RowInt) → i < upto → slice_get rows i ≡ Some row → RunFits (hold_system qp cell row)

-- the runs at a split fit
pub record SplitFits (qp : Qp) (laws : List Law) (cell : Cell) (place : ℕ) (row : RowInt) : Type 0 where
  pub meets : MeetsFit qp laws cell (place + 1)
  pub law : Law
  pub is_law : slice_get laws place ≡ Some law
  pub rows : List RowInt
  pub of_law : AreLawRows qp law rows
  pub row_place : ℕ
  pub is_row : slice_get rows row_place ≡ Some row
  pub holds : HoldsFit qp cell.rows rows (row_place + 1)

-- the runs at a leaf fit
pub record LawLeafFits (qp : Qp) (laws : List Law) (cell : Cell) (number : ℕ) : Type 0 where
  pub place : ℕ
  pub number_is : number ≡ place + 1
  pub meets : MeetsFit qp laws cell (place + 1)
  pub law : Law
  pub is_law : slice_get laws place ≡ Some law
  pub rows : List RowInt
  pub of_law : AreLawRows qp law rows
  pub holds : HoldsFit qp cell.rows rows (length rows)

pub record EmptyLeafFits (qp : Qp) (laws : List Law) (cell : Cell) : Type 0 where
  pub meets : MeetsFit qp laws cell (length laws)
  pub joint : RunFits (joint_system qp cell.rows)

abbrev pub LeafFits : Qp → List Law → Cell → Node → Type 0
LeafFits qp laws cell (Split row) = ⊥
LeafFits qp laws cell (LawLeaf number certs) = LawLeafFits qp laws cell number
LeafFits qp laws cell (NoMove cert) = EmptyLeafFits qp laws cell

-- ---- the whole tree
-- the tree's own splits and leaves, and their runs fit
pub record DividesAndFits (qp : Qp) (laws : List Law) (cell : Cell) (place : ℕ) (row : RowInt) : Type 0 where
  pub divides : Divides qp laws cell place row
  pub fits : SplitFits qp laws cell place row

pub record EndsAndFits (qp : Qp) (laws : List Law) (cell : Cell) (node : Node) : Type 0 where
  pub ends : IsLeafOf qp laws cell node
  pub fits : LeafFits qp laws cell node

abbrev pub IsFittingTree : Qp → List Law → Cell → List Node → Type 0
IsFittingTree qp laws cell nodes = IsTreeWhere (DividesAndFits qp laws) (EndsAndFits qp laws) cell nodes

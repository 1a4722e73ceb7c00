-- The first run of a search, in preorder of the tree, with a number that is too wide.
use Rattle.std.specs.Prelude.{◌≡◌, ℕ, ◌+◌, ◌≤◌, ◌⊎◌, List, length, Some, slice_get}
use Rattle.mpc_linear.specs.declared.integers.RowInt.{RowInt}
use Rattle.mpc_rows.specs.declared.programs.Qp.{Qp}
use Rattle.mpc_rows.specs.declared.laws.Law.{Law}
use Rattle.mpc_rows.specs.declared.systems.Row.{Row}
use Rattle.mpc_rows.specs.declared.trees.Node.{Node}
use Rattle.mpc_rows.specs.declared.places.Place.{Place}
use Rattle.mpc_rows.specs.declared.places.Place.TheVariants.{Meet, Holds, Joint}
use Rattle.mpc_rows.specs.RunWidth.{RunFits}
use Rattle.mpc_rows.specs.LawRows.{AreLawRows}
use Rattle.mpc_tree.specs.Cells.{NoneMeetsBefore, IsFirstToMeet, NoneFailsBefore}
use Rattle.mpc_systems.specs.Systems.{meet_system, hold_system, joint_system}
use Rattle.mpc_tree.specs.Trees.{Cell, yes_side, no_side}
use Rattle.mpc_tree.specs.NodeRuns.{MeetsFit, HoldsFit, DividesAndFits, IsFittingTree}

-- The law with this number is reached, no law before it meets the cell, and the search for a state of the cell in its region is the first
-- that is too wide.
pub record IsWideMeet (qp : Qp) (laws : List Law) (cell : Cell) (number : ℕ) : Type 0 where
  pub place : ℕ
  pub number_is : number ≡ place + 1
  pub reached : cell.next ≤ place
  pub law : Law
  pub is_law : slice_get laws place ≡ Some law
  pub none_before : NoneMeetsBefore qp laws cell.rows place
  pub before : MeetsFit qp laws cell place
  pub rows : List RowInt
  pub of_law : AreLawRows qp law rows
  pub wide : ¬ RunFits (meet_system qp cell.rows rows)

-- of these rows, that with this number, from 1, is the first whose run is too wide, and none before it fails on the cell
pub record IsWideHold (qp : Qp) (cell : List Row) (rows : List RowInt) (number : ℕ) : Type 0 where
  pub place : ℕ
  pub number_is : number ≡ place + 1
  pub row : RowInt
  pub is_row : slice_get rows place ≡ Some row
  pub none_before : NoneFailsBefore qp rows cell place
  pub before : HoldsFit qp cell rows place
  pub wide : ¬ RunFits (hold_system qp cell row)

-- that is so of the rows of the law with this number, the first whose region meets the cell
pub record IsWideRow (qp : Qp) (laws : List Law) (cell : Cell) (number row_number : ℕ) : Type 0 where
  pub place : ℕ
  pub number_is : number ≡ place + 1
  pub law : Law
  pub first : IsFirstToMeet qp laws cell.rows place law
  pub before : MeetsFit qp laws cell (place + 1)
  pub rows : List RowInt
  pub of_law : AreLawRows qp law rows
  pub row : IsWideHold qp cell.rows rows row_number

-- no region meets the cell, and the search for admissible unknowns is too wide
pub record IsWideJoint (qp : Qp) (laws : List Law) (cell : Cell) : Type 0 where
  pub none : NoneMeetsBefore qp laws cell.rows (length laws)
  pub before : MeetsFit qp laws cell (length laws)
  pub wide : ¬ RunFits (joint_system qp cell.rows)

-- The place names the first run that is too wide at the node of this number: the search for a state of the cell in a law's region, for a
-- state of the cell where a row of a law fails, or for admissible unknowns.
abbrev pub NamesMeet : Qp → List Law → Cell → ℕ → Place → Type 0
NamesMeet qp laws cell number place = (law : ℕ) × (place ≡ Meet number law) × IsWideMeet qp laws cell law

abbrev pub NamesRow : Qp → List Law → Cell → ℕ → Place → Type 0
NamesRow qp laws cell number place = (law : ℕ) × (i : ℕ) × (place ≡ Holds number law i) × IsWideRow qp laws cell law i

abbrev pub NamesJoint : Qp → List Law → Cell → ℕ → Place → Type 0
NamesJoint qp laws cell number place = (place ≡ Joint number) × IsWideJoint qp laws cell

abbrev pub IsWideAt : Qp → List Law → Cell → ℕ → Place → Type 0
IsWideAt qp laws cell number place = NamesMeet qp laws cell number place ⊎ (NamesRow qp laws cell number place ⊎ NamesJoint qp laws cell number place)

-- The place names the first run that is too wide below a cell whose node has this number: one of the node itself, one in the yes side of its
-- split, or one in the no side, where all runs of the yes side fit.
pub data IsFirstWide (qp : Qp) (laws : List Law) : Cell → ℕ → Place → Type 0 where
  here : (cell : Cell) (number : ℕ) (place : Place) → IsWideAt qp laws cell number place → IsFirstWide qp laws cell number place
  in_yes : (cell : Cell) (number at : ℕ) (row : RowInt) (place : Place) → DividesAndFits qp laws cell at row → IsFirstWide qp laws (yes_side cell at row) (number + 1) place → IsFirstWide qp laws cell number place
  in_no : (cell : Cell) (number at : ℕ) (row : RowInt) (yes : List Node) (place : Place) → DividesAndFits qp laws cell at row → IsFittingTree qp laws (yes_side cell at row) yes → IsFirstWide qp laws (no_side cell at row) (number + 1 + length yes) place → IsFirstWide qp laws cell number place

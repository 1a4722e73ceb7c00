-- Search trees over a box (Tøndel, Johansen and Bemporad, 2003), as lists of nodes in preorder.
use Rattle.std.specs.Prelude.{◌≡◌, ℕ, ◌+◌, List, [], ◌∷◌, ◌++◌, length, ⊤}
use Rattle.mpc_exact.specs.Rational.{ℚ}
use Rattle.mpc_linear.specs.declared.integers.RowInt.{RowInt}
use Rattle.mpc_rows.specs.declared.programs.Qp.{Qp}
use Rattle.mpc_rows.specs.declared.laws.Law.{Law}
use Rattle.mpc_rows.specs.declared.systems.Row.{Row}
use Rattle.mpc_rows.specs.declared.trees.Node.{Node}
use Rattle.mpc_rows.specs.declared.trees.Node.TheVariants.{Split, Law as LawLeaf, NoMove}
use Rattle.mpc_rows.specs.ActiveSets.{IsFeasible}
use Rattle.mpc_rows.specs.LawRows.{whole_row, broken_row}
use Rattle.mpc_tree.specs.Cells.{IsInCell, LiesInRegion, NoneMeetsBefore, IsFirstToMeet, IsFirstToFail}

-- a cell of the search: the rows that its states meet, in the order from the root, and the place of the law, from 0, with which the search goes on
pub record Cell : Type 0 where
  pub rows : List Row
  pub next : ℕ

-- the box, with all laws before it
abbrev pub whole_box : Cell
whole_box = record { rows = []; next = 0 }

-- where the row of the law at this place holds, and where it doesn't
abbrev pub yes_side : Cell → ℕ → RowInt → Cell
yes_side cell place row = record { rows = cell.rows ++ whole_row row ∷ []; next = place }

abbrev pub no_side : Cell → ℕ → RowInt → Cell
no_side cell place row = record { rows = cell.rows ++ broken_row row ∷ []; next = place + 1 }

-- The nodes are the tree of the cell: a leaf of which this is so, or a split, by a row of the law at some place, of which that is so, then
-- the tree of the yes side, then the tree of the no side.
pub data IsTreeWhere (splits : Cell → ℕ → RowInt → Type 0) (ends : Cell → Node → Type 0) : Cell → List Node → Type 0 where
  leaf : (cell : Cell) (node : Node) → ends cell node → IsTreeWhere splits ends cell (node ∷ [])
  split : (cell : Cell) (place : ℕ) (row : RowInt) (yes no : List Node) → splits cell place row → IsTreeWhere splits ends (yes_side cell place row) yes → IsTreeWhere splits ends (no_side cell place row) no → IsTreeWhere splits ends cell (Split row ∷ (yes ++ no))

-- ---- the tree of a table of laws
-- The cell is divided by the first row that fails on it, of the first law whose region meets it.
pub record Divides (qp : Qp) (laws : List Law) (cell : Cell) (place : ℕ) (row : RowInt) : Type 0 where
  pub law : Law
  pub first : IsFirstToMeet qp laws cell.rows place law
  pub fails : IsFirstToFail qp law cell.rows row

-- the law with this number, from 1, is the first whose region meets the cell, and the cell lies in its region
pub record IsOfLaw (qp : Qp) (laws : List Law) (cell : Cell) (number : ℕ) : Type 0 where
  pub place : ℕ
  pub number_is : number ≡ place + 1
  pub law : Law
  pub first : IsFirstToMeet qp laws cell.rows place law
  pub lies_in : LiesInRegion qp cell.rows law

abbrev pub IsLeafOf : Qp → List Law → Cell → Node → Type 0
IsLeafOf qp laws cell (Split row) = ⊥
IsLeafOf qp laws cell (LawLeaf number certs) = IsOfLaw qp laws cell number
IsLeafOf qp laws cell (NoMove cert) = NoneMeetsBefore qp laws cell.rows (length laws)

abbrev pub IsTreeOf : Qp → List Law → Cell → List Node → Type 0
IsTreeOf qp laws cell nodes = IsTreeWhere (Divides qp laws) (IsLeafOf qp laws) cell nodes

-- ---- leaves without a law
-- at a leaf without a law there are no admissible unknowns at any state of the cell
abbrev pub IsRightlyEmpty : Qp → Cell → Node → Type 0
IsRightlyEmpty qp cell (Split row) = ⊤
IsRightlyEmpty qp cell (LawLeaf number certs) = ⊤
IsRightlyEmpty qp cell (NoMove cert) = (t z : List ℚ) → IsInCell qp cell.rows t → ¬ IsFeasible qp t z

abbrev pub AnySplit : Cell → ℕ → RowInt → Type 0
AnySplit cell place row = ⊤

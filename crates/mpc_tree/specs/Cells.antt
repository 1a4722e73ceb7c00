-- Cells of states: the points of the box that meet some rows, and which regions of laws they meet.
use Rattle.std.specs.Prelude.{◌≡◌, ℕ, ◌<◌, List, All, Some, slice_get}
use Rattle.mpc_exact.specs.Rational.{ℚ}
use Rattle.mpc_linear.specs.declared.integers.RowInt.{RowInt}
use Rattle.mpc_rows.specs.declared.programs.Qp.{Qp}
use Rattle.mpc_rows.specs.declared.laws.Law.{Law}
use Rattle.mpc_rows.specs.declared.systems.Row.{Row}
use Rattle.mpc_rows.specs.LinearSystem.{MeetsRow}
use Rattle.mpc_rows.specs.ActiveSets.{IsInBox}
use Rattle.mpc_rows.specs.Laws.{IsInRegion}
use Rattle.mpc_rows.specs.LawRows.{AreLawRows, whole_row}

-- a state of the cell: a point of the box that meets the cell's rows
pub record IsInCell (qp : Qp) (cell : List Row) (t : List ℚ) : Type 0 where
  pub in_box : IsInBox qp.counts t
  pub meets : All (MeetsRow t) cell

-- the region of the law meets the cell
pub record RegionMeets (qp : Qp) (cell : List Row) (law : Law) : Type 0 where
  pub state : List ℚ
  pub in_cell : IsInCell qp cell state
  pub in_region : IsInRegion qp law state

-- the cell lies in the region of the law
pub record LiesInRegion (qp : Qp) (cell : List Row) (law : Law) : Type 0 where
  pub each : (t : List ℚ) → IsInCell qp cell t → IsInRegion qp law t

-- the row fails at some state of the cell
pub record FailsOn (qp : Qp) (cell : List Row) (row : RowInt) : Type 0 where
  pub state : List ℚ
  pub in_cell : IsInCell qp cell state
  pub fails : ¬ MeetsRow state (whole_row row)

-- no region of the laws before this place, from 0, meets the cell
abbrev pub NoneMeetsBefore : Qp → List Law → List Row → ℕ → Type 0
NoneMeetsBefore qp laws cell place = (i : ℕ) (law : Law) → i < place → slice_get laws i ≡ Some law → ¬ RegionMeets qp cell law

-- the law at this place, from 0, is the first whose region meets the cell
pub record IsFirstToMeet (qp : Qp) (laws : List Law) (cell : List Row) (place : ℕ) (law : Law) : Type 0 where
  pub is : slice_get laws place ≡ Some law
  pub meets : RegionMeets qp cell law
  pub before : NoneMeetsBefore qp laws cell place

-- none of the rows before this place, from 0, fails on the cell
abbrev pub NoneFailsBefore : Qp → List RowInt → List Row → ℕ → Type 0
NoneFailsBefore qp rows cell place = (i : ℕ) (row : RowInt) → i < place → slice_get rows i ≡ Some row → ¬ FailsOn qp cell row

-- the row is the first row of the law that fails on the cell
pub record IsFirstToFail (qp : Qp) (law : Law) (cell : List Row) (row : RowInt) : Type 0 where
  pub rows : List RowInt
  pub of_law : AreLawRows qp law rows
  pub place : ℕ
  pub is : slice_get rows place ≡ Some row
  pub fails : FailsOn qp cell row
  pub before : NoneFailsBefore qp rows cell place

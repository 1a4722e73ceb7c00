-- Theorems of the systems of a cell: which points they have, and how many coefficients their rows.
use Rattle.std.specs.Prelude.{◌≡◌, ◌↔◌, ◌+◌, List, ◌++◌, length, All}
use Rattle.mpc_exact.specs.Rational.{ℚ}
use Rattle.mpc_space.specs.Matrix.{height}
use Rattle.mpc_linear.specs.declared.integers.RowInt.{RowInt}
use Rattle.mpc_rows.specs.declared.programs.Qp.{Qp}
use Rattle.mpc_rows.specs.declared.laws.Law.{Law}
use Rattle.mpc_rows.specs.declared.systems.Row.{Row}
use Rattle.mpc_rows.specs.LinearSystem.{MeetsRow, IsPoint, HasWidth}
use Rattle.mpc_rows.specs.ActiveSets.{IsInBox, IsFeasible}
use Rattle.mpc_rows.specs.Laws.{IsLaw, IsInRegion}
use Rattle.mpc_rows.specs.LawRows.{AreLawRows, whole_row, broken_row}
use Rattle.mpc_rows.specs.SetRuns.{box_rows}
use Rattle.mpc_systems.specs.Writing.{HasBoxWidth}
use Rattle.mpc_systems.specs.Systems.{meet_system, hold_system, joint_system}

-- ---- rows
-- the broken row is met exactly where the row fails
abbrev pub BrokenPoints : Type 0
BrokenPoints = (row : RowInt) (t : List ℚ) → MeetsRow t (broken_row row) ↔ (¬ MeetsRow t (whole_row row))

-- a row holds where it doesn't fail
abbrev pub HoldsUnless : Type 0
HoldsUnless = (row : RowInt) (t : List ℚ) → (¬ ¬ MeetsRow t (whole_row row)) → MeetsRow t (whole_row row)

-- the rows of the box, in the unknowns t
abbrev pub BoxPoints : Type 0
BoxPoints = (qp : Qp) (t : List ℚ) → length t ≡ length qp.counts → IsInBox qp.counts t ↔ All (MeetsRow t) (box_rows (length qp.counts) qp.counts)

-- a point of the box lies in the region of a law exactly where the law's rows hold
abbrev pub RegionRows : Type 0
RegionRows = (qp : Qp) (law : Law) → IsLaw qp law → (rows : List RowInt) → AreLawRows qp law rows → (t : List ℚ) → IsInRegion qp law t ↔ (IsInBox qp.counts t × All (λ row. MeetsRow t (whole_row row)) rows)

-- ---- points
-- the points of the cell in the region of a law
abbrev pub MeetPoints : Type 0
MeetPoints = (qp : Qp) (law : Law) → IsLaw qp law → (rows : List RowInt) → AreLawRows qp law rows → (cell : List Row) (t : List ℚ) → (All (MeetsRow t) cell × IsInRegion qp law t) ↔ IsPoint (meet_system qp cell rows) t

-- the points of the cell where a row fails
abbrev pub HoldPoints : Type 0
HoldPoints = (qp : Qp) (cell : List Row) (row : RowInt) (t : List ℚ) → (IsInBox qp.counts t × All (MeetsRow t) cell × (¬ MeetsRow t (whole_row row))) ↔ IsPoint (hold_system qp cell row) t

-- the points of the cell with admissible unknowns
abbrev pub JointPoints : Type 0
JointPoints = (qp : Qp) (cell : List Row) → HasBoxWidth qp cell → (t z : List ℚ) → length t ≡ length qp.counts → (All (MeetsRow t) cell × IsFeasible qp t z) ↔ IsPoint (joint_system qp cell) (t ++ z)

abbrev pub JointHasPoint : Type 0
JointHasPoint = (qp : Qp) (cell : List Row) → HasBoxWidth qp cell → (v : List ℚ) → IsPoint (joint_system qp cell) v → (t : List ℚ) × (z : List ℚ) × All (MeetsRow t) cell × IsFeasible qp t z

-- ---- widths
abbrev pub HoldWidth : Type 0
HoldWidth = (qp : Qp) (cell : List Row) (row : RowInt) → HasBoxWidth qp cell → length row.a ≡ length qp.counts → HasWidth (length qp.counts) (hold_system qp cell row).rows

abbrev pub JointWidth : Type 0
JointWidth = (qp : Qp) (cell : List Row) → HasBoxWidth qp cell → HasWidth (length qp.counts + height qp.h) (joint_system qp cell).rows

pub record CellTheorems : Type 0 where
  pub broken_points : BrokenPoints
  pub holds_unless : HoldsUnless
  pub box_points : BoxPoints
  pub region_rows : RegionRows
  pub meet_points : MeetPoints
  pub hold_points : HoldPoints
  pub joint_points : JointPoints
  pub joint_has_point : JointHasPoint
  pub hold_width : HoldWidth
  pub joint_width : JointWidth

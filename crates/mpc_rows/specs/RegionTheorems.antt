-- Theorems of the stated systems: which points the rows of a box, of a program and of a law have.
use Rattle.std.specs.Prelude.{◌≡◌, ◌↔◌, ℕ, ◌+◌, List, ◌++◌, length, All}
use Rattle.mpc_exact.specs.Rational.{ℚ}
use Rattle.mpc_space.specs.Matrix.{height}
use Rattle.mpc_linear.specs.declared.integers.RowInt.{RowInt}
use Rattle.mpc_sets.specs.RowSet.{IsSetOfRows}
use Rattle.mpc_rows.specs.declared.programs.Qp.{Qp}
use Rattle.mpc_rows.specs.declared.laws.Law.{Law}
use Rattle.mpc_rows.specs.LinearSystem.{MeetsRow, IsPoint}
use Rattle.mpc_rows.specs.ActiveSets.{IsInBox, MeetsRows, IsReachable}
use Rattle.mpc_rows.specs.Laws.{IsLaw, IsInRegion, HasRegion}
use Rattle.mpc_rows.specs.LawRows.{AreLawRows}
use Rattle.mpc_rows.specs.SetRuns.{box_rows, joint_rows, reach_system, region_system}

-- a point of a box has an entry for each count
abbrev pub BoxSize : Type 0
BoxSize = (counts : List ℕ) (t : List ℚ) → IsInBox counts t → length t ≡ length counts

-- the rows of a box hold where the first entries of a point are in the box
abbrev pub BoxPoints : Type 0
BoxPoints = (counts : List ℕ) (t rest : List ℚ) → length t ≡ length counts → IsInBox counts t ↔ All (MeetsRow (t ++ rest)) (box_rows (length counts + length rest) counts)

-- the rows of a program in the unknowns (t, z) hold where z satisfies its rows at t
abbrev pub JointPoints : Type 0
JointPoints = (qp : Qp) (t z : List ℚ) → length t ≡ length qp.counts → All (MeetsRow (t ++ z)) (joint_rows qp) ↔ MeetsRows qp t z

-- a set can be reached exactly where its system has a point
abbrev pub ReachPoints : Type 0
ReachPoints = (qp : Qp) (s : List ℕ) → IsSetOfRows (height qp.g) s → ((v : List ℚ) × IsPoint (reach_system qp s) v) ↔ IsReachable qp s

-- a point lies in the region of a law where it is a point of the region's system
abbrev pub RegionPoints : Type 0
RegionPoints = (qp : Qp) (law : Law) → IsLaw qp law → (rows : List RowInt) → AreLawRows qp law rows → (t : List ℚ) → IsInRegion qp law t ↔ IsPoint (region_system qp rows) t

-- a law has a region exactly where that system has a point
abbrev pub RegionHasPoint : Type 0
RegionHasPoint = (qp : Qp) (law : Law) → IsLaw qp law → (rows : List RowInt) → AreLawRows qp law rows → HasRegion qp law ↔ ((v : List ℚ) × IsPoint (region_system qp rows) v)

pub record RegionTheorems : Type 0 where
  pub size_in_box : BoxSize
  pub box_meets : BoxPoints
  pub joint_rows_meet : JointPoints
  pub reachable : ReachPoints
  pub region_points : RegionPoints
  pub has_region : RegionHasPoint

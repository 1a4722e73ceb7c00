-- The first point of each state as a form in the extended counts.
use Rattle.std.specs.Prelude.{◌≡◌, ℕ, ◌^◌, ◌<◌, ◌≤◌, ℤ, pos, unsigned_abs, List, [], length, get_or}
use Rattle.mpc_exact.specs.Rational.{ℚ, int, frac}
use Rattle.mpc_space.specs.Vector.{coordinate, dot, mat_vec}
use Rattle.mpc_space.specs.Matrix.{RationalMatrix, height}
use Rattle.mpc_linear.specs.Dot.{DotFits}
use Rattle.mpc_linear.specs.Shape.{HasShape}
use Rattle.mpc_linear.specs.Solution.{IsOnlySolution}
use Rattle.mpc_rows.specs.declared.programs.Qp.{Qp}
use Rattle.mpc_rows.specs.ActiveSets.{extended, IsInBox}
use Rattle.mpc_rows.specs.SetRuns.{law_matrix}
use Rattle.mpc_online.specs.StateRows.{point_of}
use Rattle.mpc_online.specs.Positions.{right_matrix, opening_side, upper_part}
use Rattle.mpc_online.specs.Widths.{ProductsFit, EliminationFits}
use Rattle.mpc_online.specs.Wholes.{AreRowsOver}
use Rattle.mpc_online.specs.declared.prepared.Opening.{Opening}

-- one count for each of these, none above it
pub record AreCountsTo (most : List ℕ) (c : List ℚ) : Type 0 where
  pub size : length c ≡ length most
  pub at : (k : ℕ) → k < length most → (n : ℕ) × (n ≤ get_or most k 0) × (coordinate c k ≡ int (pos n))

-- the dot is a number of at most 2^124 over the denominator, and each operation on the way to it fits
pub record IsSmallSum (all : ℕ) (xs c : List ℚ) : Type 0 where
  pub numerator : ℤ
  pub size : unsigned_abs numerator ≤ 2 ^ 124
  pub is : dot xs c ≡ frac numerator all
  pub fits : DotFits xs c

-- c are the extended counts of a state of the grid
pub record AreExtendedCounts (qp : Qp) (c : List ℚ) : Type 0 where
  pub counts : List ℕ
  pub in_box : IsInBox qp.counts (point_of counts)
  pub is : c ≡ extended (point_of counts)

-- z is the first point there
pub record IsFirstPoint (qp : Qp) (c z : List ℚ) : Type 0 where
  pub solution : RationalMatrix
  pub solves : IsOnlySolution (law_matrix qp []) (right_matrix qp [] (opening_side qp c)) solution
  pub is : z ≡ upper_part qp solution

-- the operations on the way to it
pub record PointFits (qp : Qp) (c : List ℚ) : Type 0 where
  pub costs : ProductsFit qp.f c
  pub elimination : EliminationFits (law_matrix qp []) (right_matrix qp [] (opening_side qp c))

-- the forms' values are the first point at all states of the grid, and the operations of the elimination that finds it fit
pub record AreOpeningForms (qp : Qp) (forms : RationalMatrix) : Type 0 where
  pub shape : HasShape forms (height qp.h) qp.f.columns
  pub point : (c : List ℚ) → AreExtendedCounts qp c → IsFirstPoint qp c (mat_vec forms.rows c)
  pub fits : (c : List ℚ) → AreExtendedCounts qp c → EliminationFits (law_matrix qp []) (right_matrix qp [] (opening_side qp c))

pub record IsOpeningOf (qp : Qp) (o : Opening) : Type 0 where
  pub forms : AreOpeningForms qp o.forms
  pub rows : AreRowsOver o.forms o.rows.items
  pub costs : (c : List ℚ) → AreExtendedCounts qp c → ProductsFit qp.f c

-- What the equations of all active sets of a program have in common.
use Rattle.std.specs.Prelude.{◌≡◌, ℕ, ◌+◌, ◌-◌, nat_lt, cond, List, slice_get, pos, All, Option, Some, IfSome, MatchOption}
use Rattle.mpc_exact.specs.Rational.{ℚ, int, neg_ℚ}
use Rattle.mpc_space.specs.Matrix.{RationalMatrix, height, tabled, entry}
use Rattle.mpc_linear.specs.Dot.{DotFits}
use Rattle.mpc_rows.specs.declared.programs.Qp.{Qp}
use Rattle.mpc_bordered.specs.declared.kept.Kept.{Kept}
use Rattle.mpc_linear.specs.Solution.{IsOnlySolution}
use Rattle.mpc_rows.specs.ActiveSets.{row_of}
use Rattle.mpc_rows.specs.SetRuns.{law_matrix}
use Rattle.mpc_online.specs.StateRows.{level}
use Rattle.mpc_online.specs.Positions.{right_matrix, step_side, upper_part, lower_part}
use Rattle.mpc_online.specs.Widths.{EliminationFits}
use Rattle.mpc_wholes.specs.Wholes.{IsOver}
use Rattle.mpc_online.specs.Wholes.{AreRowsOver}
use Rattle.mpc_online.specs.Openings.{IsOpeningOf}
use Rattle.mpc_online.specs.Evens.{AreEvenRows}
use Rattle.mpc_online.specs.declared.prepared.Direction.{Direction}
use Rattle.mpc_online.specs.declared.prepared.KeptDirection.{KeptDirection}
use Rattle.mpc_online.specs.declared.prepared.Prepared.{Prepared}

-- the rows [h, g', -g']
abbrev pub upper_entry : Qp → ℕ → ℕ → ℚ
upper_entry qp i j =
    let n = height qp.h in
    let r = height qp.g in
    cond (nat_lt j n) (entry qp.h i j) (cond (nat_lt j (n + r)) (entry qp.g (j - n) i) (neg_ℚ (entry qp.g (j - n - r) i)))

-- the table [[h, g', -g'], [g, 0, 0]]: the equations of a step have some of its rows and columns
abbrev pub shared_entry : Qp → ℕ → ℕ → ℚ
shared_entry qp i j = cond (nat_lt i (height qp.h)) (upper_entry qp i j) (cond (nat_lt j (height qp.h)) (entry qp.g (i - height qp.h) j) (int (pos 0)))

unfoldable pub shared_table : Qp → RationalMatrix
shared_table qp = tabled (height qp.h + height qp.g) (height qp.h + height qp.g + height qp.g) (shared_entry qp)

-- what is kept is kept of that table, with the columns of h eliminated
pub record IsKeptOf (qp : Qp) (k : Kept) : Type 0 where
  pub table : k.table ≡ shared_table qp
  pub front : k.front ≡ height qp.h

-- how row r grows along d, and nothing where a number on the way to this doesn't fit
abbrev pub IsSlopeOf : Qp → ℕ → List ℚ → Option ℚ → Type 0
IsSlopeOf qp r d slope = MatchOption slope (¬ DotFits (row_of qp.g.rows r) d) (λ v. DotFits (row_of qp.g.rows r) d × (v ≡ level qp d r))

-- the direction with the members s towards row r: the parts of the one solution of its equations
pub record IsDirectionOf (qp : Qp) (s : List ℕ) (r : ℕ) (d : Direction) : Type 0 where
  pub solution : RationalMatrix
  pub solves : IsOnlySolution (law_matrix qp s) (right_matrix qp s (step_side qp r)) solution
  pub fits : EliminationFits (law_matrix qp s) (right_matrix qp s (step_side qp r))
  pub point_is : d.point.items ≡ upper_part qp solution
  pub whole_is : IfSome d.whole (IsOver d.point.items)
  pub multipliers_are : d.multipliers.items ≡ lower_part qp s solution
  pub slope_is : IsSlopeOf qp r d.point.items d.slope

-- a direction that is kept is that of its members and its row, and nothing is kept where a number on the way to it doesn't fit
abbrev pub IsKeptDirection : Qp → KeptDirection → Type 0
IsKeptDirection qp k = MatchOption k.direction (¬ EliminationFits (law_matrix qp k.set) (right_matrix qp k.set (step_side qp k.row))) (IsDirectionOf qp k.set k.row)

-- what is kept in place k is for the members s and row r
pub record IsKeptAt (s : List ℕ) (r : ℕ) (kept : List KeptDirection) (k : ℕ) : Type 0 where
  pub there : KeptDirection
  pub stands : slice_get kept k ≡ Some there
  pub set_is : there.set ≡ s
  pub row_is : there.row ≡ r

pub record IsPreparedFor (qp : Qp) (p : Prepared) : Type 0 where
  pub rows : AreRowsOver qp.g p.rows.items
  pub sides : AreRowsOver qp.w p.sides.items
  pub even : IfSome p.even (AreEvenRows qp)
  pub costs : AreRowsOver qp.f p.costs.items
  pub kept : IfSome p.kept (IsKeptOf qp)
  pub opening : IfSome p.opening (IsOpeningOf qp)
  pub directions : All (IsKeptDirection qp) p.directions.items

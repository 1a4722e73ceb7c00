-- Which numbers of a step must fit: every operation of the step, and no other.
use Rattle.std.specs.Prelude.{ℕ, ◌<◌, ◌≤◌, List, [], length, get_or}
use Rattle.mpc_exact.specs.Rational.{ℚ, neg_ℚ}
use Rattle.mpc_frac.specs.Fits.{FitsFrac, FitsSum}
use Rattle.mpc_space.specs.Vector.{coordinate, IsZero}
use Rattle.mpc_space.specs.Matrix.{RationalMatrix, height}
use Rattle.mpc_linear.specs.Dot.{TermFits, DotFits}
use Rattle.mpc_linear.specs.Solution.{IsOnlySolution, IsWideColumn}
use Rattle.mpc_rows.specs.declared.programs.Qp.{Qp}
use Rattle.mpc_rows.specs.ActiveSets.{extended, row_of}
use Rattle.mpc_rows.specs.SetRuns.{law_matrix}
use Rattle.mpc_online.specs.StateRows.{sides_at, level, side, IsViolated}
use Rattle.mpc_online.specs.Positions.{Position, right_matrix, opening_side, step_side, upper_part, lower_part, along}
use Rattle.mpc_online.specs.Turns.{IsFalling, quotient_at, full_length, IsTurn}
use Rattle.mpc_online.specs.declared.turns.Turn.{Turn}
use Rattle.mpc_online.specs.declared.turns.Turn.TheVariants.{Refuted, Drops, Joins}

-- the dots of the rows of a matrix with a vector
abbrev pub ProductsFit : RationalMatrix → List ℚ → Type 0
ProductsFit m c = (i : ℕ) → i < height m → DotFits (get_or m.rows i []) c

-- no column of the elimination has a number that is too wide
abbrev pub EliminationFits : RationalMatrix → RationalMatrix → Type 0
EliminationFits m rhs = (column : ℕ) → ¬ IsWideColumn m rhs column

-- the test of row i: a dot and a difference
pub record TestFits (qp : Qp) (b z : List ℚ) (i : ℕ) : Type 0 where
  pub product : DotFits (row_of qp.g.rows i) z
  pub difference : FitsSum (level qp z i) (neg_ℚ (side b i))

-- the tests of the rows up to the first that z doesn't meet
abbrev pub TestsFit : Qp → List ℚ → List ℚ → Type 0
TestsFit qp b z = (i : ℕ) → 1 ≤ i → i ≤ height qp.g → ((j : ℕ) → 1 ≤ j → j < i → ¬ IsViolated qp b z j) → TestFits qp b z i

-- ---- the lengths
abbrev pub QuotientsFit : List ℚ → List ℚ → Type 0
QuotientsFit l e = (k : ℕ) → k < length e → IsFalling e k → FitsFrac (quotient_at l e k)

pub record FullFits (qp : Qp) (b : List ℚ) (p : Position) (d : List ℚ) : Type 0 where
  pub test : TestFits qp b p.point p.row
  pub slope : DotFits (row_of qp.g.rows p.row) d
  pub quotient : FitsFrac (full_length qp b p d)

pub record LengthsFit (qp : Qp) (b : List ℚ) (p : Position) (d e : List ℚ) : Type 0 where
  pub partial : QuotientsFit p.multipliers e
  pub full : ¬ IsZero d → FullFits qp b p d

-- ---- the move
abbrev pub GrowsFit : List ℚ → ℚ → List ℚ → Type 0
GrowsFit xs s ds = (i : ℕ) → i < length xs → TermFits (coordinate xs i) s (coordinate ds i)

pub record MoveFits (p : Position) (d e : List ℚ) (s : ℚ) : Type 0 where
  pub point : GrowsFit p.point s d
  pub multipliers : GrowsFit p.multipliers s e
  pub weight : FitsSum p.weight s

abbrev pub TurnFits : Qp → List ℚ → Position → List ℚ → List ℚ → Turn → Type 0
TurnFits qp b p d e Refuted = Unit {0}
TurnFits qp b p d e (Drops k s) = MoveFits p d e s
TurnFits qp b p d e (Joins s) = MoveFits p d e s × TestsFit qp b (along p d e s).point

-- ---- a step, and what stands before the first
pub record StepFits (qp : Qp) (b : List ℚ) (p : Position) : Type 0 where
  pub elimination : EliminationFits (law_matrix qp p.set) (right_matrix qp p.set (step_side qp p.row))
  pub lengths : (x : RationalMatrix) → IsOnlySolution (law_matrix qp p.set) (right_matrix qp p.set (step_side qp p.row)) x → LengthsFit qp b p (upper_part qp x) (lower_part qp p.set x)
  pub turn : (x : RationalMatrix) → IsOnlySolution (law_matrix qp p.set) (right_matrix qp p.set (step_side qp p.row)) x → (turn : Turn) → IsTurn qp b p (upper_part qp x) (lower_part qp p.set x) turn → TurnFits qp b p (upper_part qp x) (lower_part qp p.set x) turn

-- the first point and the tests of the rows there, with the right sides b and the extended counts c
pub record FirstFits (qp : Qp) (b c : List ℚ) : Type 0 where
  pub costs : ProductsFit qp.f c
  pub elimination : EliminationFits (law_matrix qp []) (right_matrix qp [] (opening_side qp c))
  pub tests : (x : RationalMatrix) → IsOnlySolution (law_matrix qp []) (right_matrix qp [] (opening_side qp c)) x → TestsFit qp b (upper_part qp x)

pub record OpeningFits (qp : Qp) (t : List ℚ) : Type 0 where
  pub sides : ProductsFit qp.w (extended t)
  pub first : FirstFits qp (sides_at qp t) (extended t)

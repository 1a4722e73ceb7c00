-- The run of the dual active-set method at a state: step 0 finds the cheapest choice without rows, and each later step moves towards the
-- first row that isn't met, until a member's multiplier is 0 or the row holds with equality.
use Rattle.std.specs.Prelude.{◌≡◌, ℕ, zero, suc, ◌⊎◌, List, [], Option}
use Rattle.mpc_exact.specs.Rational.{ℚ}
use Rattle.mpc_space.specs.Matrix.{RationalMatrix}
use Rattle.mpc_linear.specs.Solution.{IsOnlySolution}
use Rattle.mpc_rows.specs.declared.programs.Qp.{Qp}
use Rattle.mpc_rows.specs.ActiveSets.{extended}
use Rattle.mpc_rows.specs.SetRuns.{law_matrix}
use Rattle.mpc_online.specs.StateRows.{sides_at, IsFirstViolated}
use Rattle.mpc_online.specs.Positions.{Position, Step, goes_to, ends, right_matrix, opening_side, step_side, upper_part, lower_part, along, without_place, joined, continued, opened, row_multipliers}
use Rattle.mpc_online.specs.Turns.{IsTurn}
use Rattle.mpc_online.specs.Widths.{StepFits, OpeningFits}
use Rattle.mpc_online.specs.declared.turns.Turn.{Turn}
use Rattle.mpc_online.specs.declared.turns.Turn.TheVariants.{Refuted as RefutedTurn, Drops, Joins}
use Rattle.mpc_online.specs.declared.Online.{Online}
use Rattle.mpc_online.specs.declared.Online.TheVariants.{Refuted}

-- ---- one step
-- what a turn leads to
abbrev pub LeadsTo : Qp → List ℚ → Position → List ℚ → List ℚ → Turn → Step → Type 0
LeadsTo qp b p d e RefutedTurn next = next ≡ ends (Refuted (row_multipliers qp p e))
LeadsTo qp b p d e (Drops k s) next = next ≡ goes_to (without_place (along p d e s) k)
LeadsTo qp b p d e (Joins s) next = (o : Option ℕ) × IsFirstViolated qp b (along p d e s).point o × (next ≡ continued (joined (along p d e s)) o)

-- The direction is the solution of h d + g_S'e = -g_r, g_S d = 0.
pub record IsStep (qp : Qp) (b : List ℚ) (p : Position) (next : Step) : Type 0 where
  pub solution : RationalMatrix
  pub solves : IsOnlySolution (law_matrix qp p.set) (right_matrix qp p.set (step_side qp p.row)) solution
  pub turn : Turn
  pub is_turn : IsTurn qp b p (upper_part qp solution) (lower_part qp p.set solution) turn
  pub leads : LeadsTo qp b p (upper_part qp solution) (lower_part qp p.set solution) turn next

-- The first point solves h z = -f c; b are the right sides, and c the extended counts.
pub record IsOpening (qp : Qp) (b c : List ℚ) (next : Step) : Type 0 where
  pub solution : RationalMatrix
  pub solves : IsOnlySolution (law_matrix qp []) (right_matrix qp [] (opening_side qp c)) solution
  pub first : Option ℕ
  pub is_first : IsFirstViolated qp b (upper_part qp solution) first
  pub leads : next ≡ continued (opened (upper_part qp solution)) first

-- ---- how the run ends
pub data RunEnd : Type 0 where
  answered : Online → RunEnd
  -- the first step with an operation that doesn't fit
  wide_in : ℕ → RunEnd

-- it ends in step k
abbrev pub EndsHere : Qp → List ℚ → ℕ → Position → RunEnd → Type 0
EndsHere qp b k p (answered o) = StepFits qp b p × IsStep qp b p (ends o)
EndsHere qp b k p (wide_in j) = (j ≡ k) × ¬ StepFits qp b p

-- so many steps after step k
abbrev pub EndsAfter : Qp → List ℚ → ℕ → ℕ → Position → RunEnd → Type 0
EndsAfter qp b zero k p end = EndsHere qp b k p end
EndsAfter qp b (suc more) k p end = StepFits qp b p × (next : Position) × IsStep qp b p (goes_to next) × EndsAfter qp b more (suc k) next end

-- from step k on
abbrev pub EndsFrom : Qp → List ℚ → ℕ → Position → RunEnd → Type 0
EndsFrom qp b k p end = (more : ℕ) × EndsAfter qp b more k p end

abbrev pub EndsAtOnce : Qp → List ℚ → RunEnd → Type 0
EndsAtOnce qp t (answered o) = OpeningFits qp t × IsOpening qp (sides_at qp t) (extended t) (ends o)
EndsAtOnce qp t (wide_in j) = (j ≡ 0) × ¬ OpeningFits qp t

abbrev pub EndsLater : Qp → List ℚ → RunEnd → Type 0
EndsLater qp t end = OpeningFits qp t × (p : Position) × IsOpening qp (sides_at qp t) (extended t) (goes_to p) × EndsFrom qp (sides_at qp t) 1 p end

abbrev pub IsRunEnd : Qp → List ℚ → RunEnd → Type 0
IsRunEnd qp t end = EndsAtOnce qp t end ⊎ EndsLater qp t end

-- a run ends in one way only
abbrev pub OneRunEnd : Type 0
OneRunEnd = (qp : Qp) (t : List ℚ) (a b : RunEnd) → IsRunEnd qp t a → IsRunEnd qp t b → a ≡ b

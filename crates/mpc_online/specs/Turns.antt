-- How far a step goes, and what ends it.
use Rattle.std.specs.Prelude.{◌≡◌, ℕ, ◌<◌, List, cond, length, pos, Option, Some, None}
use Rattle.mpc_exact.specs.Rational.{ℚ, int, ◌-ℚ◌, ◌/ℚ◌, neg_ℚ, lt_ℚ, ◌≤ℚ◌, ◌<ℚ◌}
use Rattle.mpc_space.specs.Vector.{coordinate, IsZero}
use Rattle.mpc_rows.specs.declared.programs.Qp.{Qp}
use Rattle.mpc_online.specs.StateRows.{level, side}
use Rattle.mpc_online.specs.Positions.{Position}
use Rattle.mpc_online.specs.declared.turns.Partial.{Partial}
use Rattle.mpc_online.specs.declared.turns.Turn.{Turn}
use Rattle.mpc_online.specs.declared.turns.Turn.TheVariants.{Refuted, Drops, Joins}

-- the length at which the multiplier in place k is 0
abbrev pub quotient_at : List ℚ → List ℚ → ℕ → ℚ
quotient_at l e k = coordinate l k /ℚ neg_ℚ (coordinate e k)

abbrev pub IsFalling : List ℚ → ℕ → Type 0
IsFalling e k = coordinate e k <ℚ int (pos 0)

-- no multiplier falls
abbrev pub NoneFalls : List ℚ → Type 0
NoneFalls e = (k : ℕ) → k < length e → ¬ IsFalling e k

-- the multiplier in place k is the first to be 0, on a tie that of the least place
pub record IsShortest (l e : List ℚ) (k : ℕ) : Type 0 where
  pub below : k < length e
  pub falls : IsFalling e k
  pub least : (j : ℕ) → j < length e → IsFalling e j → quotient_at l e k ≤ℚ quotient_at l e j
  pub first : (j : ℕ) → j < k → IsFalling e j → quotient_at l e k <ℚ quotient_at l e j

-- the multiplier that is first to be 0 and its length, if there is one
abbrev pub IsShortestWith : List ℚ → List ℚ → Option Partial → Type 0
IsShortestWith l e None = NoneFalls e
IsShortestWith l e (Some drop) = IsShortest l e drop.place × (drop.length ≡ quotient_at l e drop.place)

-- the one with the lesser length, the earlier one on a tie
abbrev pub shorter_of : Option Partial → Partial → Option Partial
shorter_of None next = Some next
shorter_of (Some earlier) next = cond (lt_ℚ next.length earlier.length) (Some next) (Some earlier)

-- the length at which the row on its way holds with equality
abbrev pub full_length : Qp → List ℚ → Position → List ℚ → ℚ
full_length qp b p d = (level qp p.point p.row -ℚ side b p.row) /ℚ neg_ℚ (level qp d p.row)

-- a member goes at this length
pub record IsDrop (qp : Qp) (b : List ℚ) (p : Position) (d e : List ℚ) (k : ℕ) (s : ℚ) : Type 0 where
  pub shortest : IsShortest p.multipliers e k
  pub is : s ≡ quotient_at p.multipliers e k
  pub before_row : ¬ IsZero d → s <ℚ full_length qp b p d

-- the row joins at this length
pub record IsJoin (qp : Qp) (b : List ℚ) (p : Position) (d e : List ℚ) (s : ℚ) : Type 0 where
  pub moves : ¬ IsZero d
  pub is : s ≡ full_length qp b p d
  pub before_members : (k : ℕ) → k < length e → IsFalling e k → s ≤ℚ quotient_at p.multipliers e k

abbrev pub IsTurn : Qp → List ℚ → Position → List ℚ → List ℚ → Turn → Type 0
IsTurn qp b p d e Refuted = IsZero d × NoneFalls e
IsTurn qp b p d e (Drops k s) = IsDrop qp b p d e k s
IsTurn qp b p d e (Joins s) = IsJoin qp b p d e s

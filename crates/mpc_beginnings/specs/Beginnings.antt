-- Runs that share their beginning. A system with further rows behind its own runs as the shorter one does, up to the last position of that
-- one: the further sides have the greatest numbers. What a further row adds at a position is a combination of the rows of the unknowns.
use Rattle.std.specs.Prelude.{◌≡◌, ℕ, ◌+◌, ◌<◌, ◌≤◌, ◌↔◌, false, List, ◌++◌, length, get_or, pos}
use Rattle.mpc_exact.specs.Rational.{ℚ, int, ◌*ℚ◌}
use Rattle.mpc_frac.specs.Fits.{FitsFrac, FitsSum}
use Rattle.mpc_space.specs.Total.{total}
use Rattle.mpc_space.specs.Vector.{coordinate, zeros}
use Rattle.mpc_rows.specs.declared.systems.Row.{Row}
use Rattle.mpc_runs.specs.RunEnd.{EndsRefuted}
use Rattle.mpc_rows.specs.LinearSystem.{LinearSystem, height, row_at, no_row, entry}
use Rattle.mpc_rows.specs.Run.{Position, is_refuted, goes_on, count, rest, entering_row, turn, position, steps, last_position}
use Rattle.mpc_rows.specs.SetRuns.{turned}
use Rattle.mpc_rows.specs.RunWidth.{PositionFits, RunFits}

-- the system with further rows behind its own
abbrev pub lengthened : LinearSystem → List Row → LinearSystem
lengthened s more = record { width = s.width; rows = s.rows ++ more }

-- at q the same variables are basic as at p, and the first n have the same rows
pub record Agrees (n : ℕ) (p q : Position) : Type 0 where
  pub basic : (x : ℕ) → q.is_basic x ≡ p.is_basic x
  pub rows : (x y : ℕ) → x < n → q.coefficient x y ≡ p.coefficient x y

-- the coefficient on y of the side of a row, from the rows of the unknowns
unfoldable pub late : LinearSystem → Row → Position → ℕ → ℚ
late s r p y = total s.width (λ j. coordinate r.a j *ℚ p.coefficient j y)

-- ---- what must fit of a side with the coefficients c
-- the term of y in the value, in both parts, and its sum with what stands before it
pub record SideTermFits (s : LinearSystem) (c : ℕ → ℚ) (y : ℕ) : Type 0 where
  pub first_product : FitsFrac (c y *ℚ (rest s y).first)
  pub first_sum : FitsSum (total y (λ z. c z *ℚ (rest s z).first)) (c y *ℚ (rest s y).first)
  pub second_product : FitsFrac (c y *ℚ (rest s y).second)
  pub second_sum : FitsSum (total y (λ z. c z *ℚ (rest s z).second)) (c y *ℚ (rest s y).second)

pub record SideValueFits (s : LinearSystem) (p : Position) (c : ℕ → ℚ) : Type 0 where
  pub terms : (y : ℕ) → y < count s → p.is_basic y ≡ false → SideTermFits s c y

-- the new coefficient on y after the pivot where l leaves and e enters
pub record SideEntryFits (p : Position) (l e : ℕ) (c : ℕ → ℚ) (y : ℕ) : Type 0 where
  pub product : FitsFrac (c e *ℚ entering_row p l e y)
  pub sum : FitsSum (c y) (c e *ℚ entering_row p l e y)

pub record SideRowFits (s : LinearSystem) (p : Position) (l e : ℕ) (c : ℕ → ℚ) : Type 0 where
  pub leaving : FitsFrac (c e *ℚ entering_row p l e l)
  pub entries : (y : ℕ) → y < count s → p.is_basic y ≡ false → (y ≡ e → ⊥) → SideEntryFits p l e c y

-- what a further row adds at a position of the run of s: its value, and its new row where the run goes on
pub record AppendedFits (s : LinearSystem) (r : Row) (p : Position) : Type 0 where
  pub value : SideValueFits s p (late s r p)
  pub row : (l e : ℕ) → turn s p ≡ goes_on l e → (late s r p e ≡ int (pos 0) → ⊥) → SideRowFits s p l e (late s r p)

-- what further rows add before the last position
pub record BeginningFits (s : LinearSystem) (more : List Row) : Type 0 where
  pub each : (k i : ℕ) → k < steps s → i < length more → AppendedFits s (get_or more i no_row) (position s k)

-- what the longer run forms from the last position of the shorter one on
pub record LaterFits (s : LinearSystem) (more : List Row) : Type 0 where
  pub each : (k : ℕ) → steps s ≤ k → k ≤ steps (lengthened s more) → PositionFits (lengthened s more) (position (lengthened s more) k)

-- what further rows add where the shorter system is refuted, up to its last position
pub record AllAppendedFit (s : LinearSystem) (more : List Row) : Type 0 where
  pub each : (k i : ℕ) → k ≤ steps s → i < length more → AppendedFits s (get_or more i no_row) (position s k)

-- ---- rows that are there already, the other way round
-- the numbers of a system fit
pub record NumbersFit (s : LinearSystem) : Type 0 where
  pub entries : (i j : ℕ) → i < height s → j < s.width → FitsFrac (entry s i j)
  pub sides : (i : ℕ) → i < height s → FitsFrac (row_at s i).b

-- each further row is one of the system's, the other way round
pub record AreTurned (s : LinearSystem) (more : List Row) : Type 0 where
  pub each : (i : ℕ) → i < length more → (j : ℕ) × (j < height s) × (get_or more i no_row ≡ turned (row_at s j))

-- ---- theorems of shared beginnings
-- up to the shorter run's last position the longer one stands alike, and takes the same steps
abbrev pub StandAlike : Type 0
StandAlike = (s : LinearSystem) (more : List Row) (k : ℕ) → k ≤ steps s → Agrees (count s) (position s k) (position (lengthened s more) k)

abbrev pub TurnAlike : Type 0
TurnAlike = (s : LinearSystem) (more : List Row) (k : ℕ) → k < steps s → turn (lengthened s more) (position (lengthened s more) k) ≡ turn s (position s k)

abbrev pub RunLonger : Type 0
RunLonger = (s : LinearSystem) (more : List Row) → steps s ≤ steps (lengthened s more)

-- where the shorter system is refuted, so is the longer one, with the multiplier 0 for each further row
abbrev pub RefuteAlike : Type 0
RefuteAlike = (s : LinearSystem) (more : List Row) (m : List ℚ) → EndsRefuted s m → EndsRefuted (lengthened s more) (m ++ zeros (length more))

-- the row of a further side is the combination of the rows of the unknowns
abbrev pub FormLate : Type 0
FormLate = (s : LinearSystem) (more : List Row) (k i y : ℕ) → k ≤ steps s → i < length more → (position (lengthened s more) k).coefficient (count s + i) y ≡ late s (get_or more i no_row) (position s k) y

-- the numbers that must fit
abbrev pub FitInParts : Type 0
FitInParts = (s : LinearSystem) (more : List Row) → RunFits (lengthened s more) ↔ (RunFits s × BeginningFits s more × LaterFits s more)

abbrev pub FitRefuted : Type 0
FitRefuted = (s : LinearSystem) (more : List Row) (l : ℕ) → turn s (last_position s) ≡ is_refuted l → RunFits (lengthened s more) ↔ (RunFits s × AllAppendedFit s more)

abbrev pub FitTurned : Type 0
FitTurned = (s : LinearSystem) (more : List Row) → NumbersFit s → AreTurned s more → RunFits (lengthened s more) ↔ (RunFits s × LaterFits s more)

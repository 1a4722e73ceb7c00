-- What holds of every least-number run.
use Rattle.std.specs.Prelude.{◌≡◌, ℕ, ◌^◌, ◌<◌, ◌≤◌, true, false, pos, ◌↔◌}
use Rattle.mpc_exact.specs.Rational.{ℚ, int}
use Rattle.mpc_rows.specs.LinearSystem.{LinearSystem}
use Rattle.mpc_rows.specs.Run.{count, is_zero, turn, is_pivot, last_position, steps, GoesOn, OneBasis}

-- no basis stands at two positions of a run
abbrev pub NoBasisTwice : Type 0
NoBasisTwice = (s : LinearSystem) (i j : ℕ) → i < j → j ≤ steps s → ¬ OneBasis s i j

-- before its stated number of steps a run goes on
abbrev pub GoesOnBefore : Type 0
GoesOnBefore = (s : LinearSystem) (k : ℕ) → k < steps s → GoesOn s k

-- after them it is at its end: a point, or refuted
abbrev pub StopsAtTheEnd : Type 0
StopsAtTheEnd = (s : LinearSystem) → is_pivot (turn s (last_position s)) ≡ false

-- a run takes fewer steps than there are sets of variables
abbrev pub HasFewSteps : Type 0
HasFewSteps = (s : LinearSystem) → steps s < 2 ^ count s

-- the test for 0
abbrev pub ZeroTest : Type 0
ZeroTest = (c : ℚ) → (is_zero c ≡ true) ↔ (c ≡ int (pos 0))

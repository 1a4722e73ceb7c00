-- The sizes of the numbers that stood for the positions of a run.
use Rattle.std.specs.Prelude.{◌≡◌, ℕ, ◌<◌, ◌≤◌, List, length, ℤ}
use Rattle.mpc_rows.specs.LinearSystem.{LinearSystem}
use Rattle.mpc_rows.specs.Run.{Position, count, position}
use Rattle.mpc_runs.specs.declared.variables.Seat.{Seat}
use Rattle.mpc_whole.specs.Whole.{IsForm}
use Rattle.mpc_scaled.specs.Scaled.{IsSmall}

-- whole numbers over one denominator stand for the position, by these scales, and none is greater; nor is the denominator
pub record IsSmallForm (s : LinearSystem) (k : List ℕ) (p : Position) (most most_den : ℕ) : Type 0 where
  pub seats : List Seat
  pub den : ℕ
  pub numbers : List ℤ
  pub each : length seats ≡ count s
  pub form : IsForm s (count s) seats k den numbers p
  pub small : IsSmall most numbers
  pub den_small : den ≤ most_den

-- so at all positions before this one
pub record AreSmallBefore (s : LinearSystem) (k : List ℕ) (after most most_den : ℕ) : Type 0 where
  pub each : (q : ℕ) → q < after → IsSmallForm s k (position s q) most most_den

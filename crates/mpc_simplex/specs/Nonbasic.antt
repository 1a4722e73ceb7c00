-- The nonbasic sides at a position of a run.
use Rattle.std.specs.Prelude.{◌≡◌, ℕ, ◌<◌, ◌≤◌, false, List, length, slice_index}
use Rattle.mpc_runs.specs.declared.variables.Seat.{Seat}
use Rattle.mpc_runs.specs.Table.{seat_at, in_row}

-- a list has the nonbasic sides of n variables in rising order, where so many unknowns stand before the sides
pub record AreNonbasicSides (width n : ℕ) (seats : List Seat) (list : List ℕ) : Type 0 where
  pub sides : (k : ℕ) → k < length list → width ≤ slice_index list k
  pub below : (k : ℕ) → k < length list → slice_index list k < n
  pub nonbasic : (k : ℕ) → k < length list → in_row (seat_at seats (slice_index list k)) ≡ false
  pub rising : (i k : ℕ) → i < k → k < length list → slice_index list i < slice_index list k
  pub all : (y : ℕ) → width ≤ y → y < n → in_row (seat_at seats y) ≡ false → (k : ℕ) × (k < length list) × (slice_index list k ≡ y)

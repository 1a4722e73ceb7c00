-- Theorems of whole numbers that stand for a position of a run, and of their sizes.
use Rattle.std.specs.Prelude.{◌≡◌, ℕ, ◌+◌, ◌*◌, ◌^◌, ◌<◌, ◌≤◌, List, ℤ, pos, unsigned_abs}
use Rattle.mpc_rows.specs.LinearSystem.{LinearSystem, height}
use Rattle.mpc_rows.specs.Run.{goes_on, count, turn, position, steps}
use Rattle.mpc_rows.specs.RunWidth.{PositionFits}
use Rattle.mpc_runs.specs.declared.variables.Seat.{Seat}
use Rattle.mpc_runs.specs.declared.variables.Seat.TheVariants.{Column}
use Rattle.mpc_runs.specs.Table.{seat_at, IsOpeningSeats}
use Rattle.mpc_scaled.specs.Scaled.{whole_at, scale_at, IsSmall, AreScales, IsWholeSystem}
use Rattle.mpc_whole.specs.Judged.{IsJudged, IsLeavingRow, IsSideJudged, IsRowFitting}
use Rattle.mpc_whole.specs.Norms.{Over}
use Rattle.mpc_whole.specs.Underway.{IsUnderway}
use Rattle.mpc_whole.specs.Whole.{HasBounds, IsForm, IsNarrow, IsUnit, side_cell}

pub record PositionTheorems : Type 0 where
  -- the unit matrix stands for the opening, where all values are 0
  pub opening : (s : LinearSystem) (k : List ℕ) → AreScales s k → (seats : List Seat) → IsOpeningSeats s (count s) seats → (v : List ℤ) → IsUnit s.width v
      → (c_1 c_2 : List ℤ) → ((j : ℕ) → whole_at c_1 j ≡ pos 0) → ((j : ℕ) → whole_at c_2 j ≡ pos 0)
      → (u : IsUnderway s (count s) seats k 1 v c_1 c_2 0 0 s.width) × (u.stands.at ≡ 0)
  -- numbers within the limit are narrow, and where they are, no operation at a position is wide
  pub narrow : (s : LinearSystem) (k : List ℕ) (a b : List ℤ) (most : ℕ) → HasBounds s k a b most → (n : ℕ) (seats : List Seat) (d : ℕ) (v : List ℤ) → IsSmall most v
      → ((x : ℕ) → x < n → d * scale_at k x ≤ 2 ^ 62) → IsNarrow s n seats k a d v
  pub narrow_fits : (s : LinearSystem) (k : List ℕ) (a b : List ℤ) → IsWholeSystem s k a b → (most : ℕ) → HasBounds s k a b most → (q : ℕ) → q ≤ steps s
      → (seats : List Seat) (d : ℕ) (v : List ℤ) → IsForm s (count s) seats k d v (position s q) → IsNarrow s (count s) seats k a d v → PositionFits s (position s q)
  -- nor is one where they are judged by sizes of the row that leaves
  pub judged_fits : (s : LinearSystem) (k : List ℕ) (a b : List ℤ) → IsWholeSystem s k a b → (q : ℕ) → q ≤ steps s
      → (seats : List Seat) (d : ℕ) (v : List ℤ) → IsForm s (count s) seats k d v (position s q) → (f top size : ℕ) → IsJudged s (count s) seats k a b d v f top size
      → ((l e : ℕ) → turn s (position s q) ≡ goes_on l e → IsLeavingRow s (position s q) k d f top size l e) → PositionFits s (position s q)
  -- nor is one on the row of a side where its numbers are judged so, and the row that leaves is over a part of the denominator
  pub judged_row : (s : LinearSystem) (k : List ℕ) (a b : List ℤ) → IsWholeSystem s k a b → (q : ℕ) → q ≤ steps s
      → (seats : List Seat) (d : ℕ) (v : List ℤ) → IsForm s (count s) seats k d v (position s q) → (f top size divisor left : ℕ) → divisor * left ≡ d
      → ((l e : ℕ) → turn s (position s q) ≡ goes_on l e → IsLeavingRow s (position s q) k left f top size l e)
      → (i : ℕ) → i < height s → IsSideJudged s seats k a b d v f top size i → IsRowFitting s (position s q) (s.width + i)
  -- the numbers of a side's row, and what they are over its denominator
  pub side_size : (s : LinearSystem) (a v : List ℤ) (most_entry most : ℕ) → IsSmall most_entry a → IsSmall most v → (i c : ℕ) → unsigned_abs (side_cell s a v i c) ≤ s.width * (most_entry * most)
  pub side_over : (s : LinearSystem) (k : List ℕ) (a b : List ℤ) → IsWholeSystem s k a b → (q : ℕ) → q ≤ steps s
      → (seats : List Seat) (d : ℕ) (v : List ℤ) → IsForm s (count s) seats k d v (position s q) → (i m y : ℕ) → i < height s
      → ((c : ℕ) → y < count s → seat_at seats y ≡ Column c → unsigned_abs (side_cell s a v i c) * scale_at k y ≤ m) → y < count s → Over (d * scale_at k (s.width + i)) m ((position s q).coefficient (s.width + i) y)

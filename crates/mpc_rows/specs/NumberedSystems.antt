-- Systems by numbered rows and unknowns: points, pair points and multipliers as functions of these numbers.
use Rattle.std.specs.Prelude.{◌≡◌, ℕ, ◌<◌, true, ◌⊎◌, pos}
use Rattle.mpc_exact.specs.Rational.{ℚ, int, ◌+ℚ◌, ◌*ℚ◌, ◌≤ℚ◌, ◌<ℚ◌}
use Rattle.mpc_exact.specs.Pair.{Pair}
use Rattle.mpc_space.specs.Total.{total}
use Rattle.mpc_rows.specs.LinearSystem.{LinearSystem, height, row_at, entry, IsWithin}

-- the left side of row i at the point v
abbrev pub left_side : LinearSystem → ℕ → (ℕ → ℚ) → ℚ
left_side s i v = total s.width (λ j. entry s i j *ℚ v j)

pub record IsPointBy (s : LinearSystem) (v : ℕ → ℚ) : Type 0 where
  pub meets : (i : ℕ) → i < height s → IsWithin (row_at s i).strict (left_side s i v) (row_at s i).b

-- the point q + d r of pairs (q, r)
abbrev pub pair_at : (ℕ → Pair) → ℚ → ℕ → ℚ
pair_at p d j = (p j).first +ℚ d *ℚ (p j).second

pub record IsPairPointBy (s : LinearSystem) (p : ℕ → Pair) : Type 0 where
  pub reach : ℚ
  pub some : int (pos 0) <ℚ reach
  pub meets : (d : ℚ) → int (pos 0) <ℚ d → d <ℚ reach → IsPointBy s (pair_at p d)

-- a strict row has a positive multiplier
abbrev pub StrictBy : LinearSystem → (ℕ → ℚ) → Type 0
StrictBy s m = (i : ℕ) × (i < height s) × ((row_at s i).strict ≡ true) × (int (pos 0) <ℚ m i)

-- the multipliers' sum of the right sides
abbrev pub side_total : LinearSystem → (ℕ → ℚ) → ℚ
side_total s m = total (height s) (λ i. m i *ℚ (row_at s i).b)

pub record RefutesBy (s : LinearSystem) (m : ℕ → ℚ) : Type 0 where
  pub nonneg : (i : ℕ) → i < height s → int (pos 0) ≤ℚ m i
  pub left : (j : ℕ) → j < s.width → total (height s) (λ i. m i *ℚ entry s i j) ≡ int (pos 0)
  pub right : (side_total s m <ℚ int (pos 0)) ⊎ ((side_total s m ≡ int (pos 0)) × StrictBy s m)

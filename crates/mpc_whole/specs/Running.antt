-- What a run in whole numbers stands on, and the numbers of one of its positions.
use Rattle.std.specs.Prelude.{◌≡◌, ℕ, ◌+◌, ◌-◌, ◌*◌, ◌<◌, ◌≤◌, ◌^◌, List, length, ℤ, pos, unsigned_abs, ◌*ℤ◌, neg_ℤ}
use Rattle.mpc_exact.specs.Rational.{ℚ, int, frac}
use Rattle.mpc_space.specs.Vector.{coordinate}
use Rattle.mpc_rows.specs.LinearSystem.{LinearSystem, height}
use Rattle.mpc_rows.specs.Run.{count, last_position, multiplier}
use Rattle.mpc_runs.specs.declared.variables.Seat.{Seat}
use Rattle.mpc_runs.specs.Table.{variable_at, AreNonbasic}
use Rattle.mpc_runs.specs.WholeNumbers.{whole_total, HasRoom}
use Rattle.mpc_whole.specs.Whole.{HasBounds}
use Rattle.mpc_scaled.specs.Scaled.{whole_at, whole_cell, scale_at, AreScales, IsSmall, IsWholeSystem}

-- the numbers of a system of so many variables, with room for sums of their products
pub record HasNumbers (s : LinearSystem) (n : ℕ) (k : List ℕ) (a b : List ℤ) : Type 0 where
  pub count : n ≡ s.width + height s
  pub whole : IsWholeSystem s k a b
  pub room : HasRoom s.width (2 ^ 62) a

-- with bounds of them and of what a position may have too
pub record IsFrame (s : LinearSystem) (n : ℕ) (k : List ℕ) (a b : List ℤ) (most : ℕ) : Type 0 where
  pub numbers : HasNumbers s n k a b
  pub bounds : HasBounds s k a b most
  pub most_small : most ≤ 2 ^ 62

-- both parts of the values of the unknowns, in small numbers
pub record AreParts (width : ℕ) (c_1 c_2 : List ℤ) : Type 0 where
  pub first_size : length c_1 ≡ width
  pub second_size : length c_2 ≡ width
  pub first_small : IsSmall (2 ^ 62) c_1
  pub second_small : IsSmall (2 ^ 62) c_2

-- the value of each side, in either part, is a number of 64 bits
pub record AreShort (width : ℕ) (a c_1 c_2 : List ℤ) : Type 0 where
  pub first : (i : ℕ) → unsigned_abs (whole_total width (λ j. whole_cell width a i j *ℤ whole_at c_1 j)) ≤ 2 ^ 62
  pub second : (i : ℕ) → unsigned_abs (whole_total width (λ j. whole_cell width a i j *ℤ whole_at c_2 j)) ≤ 2 ^ 62

-- a pivot that side i leaves by and column e enters by: the denominator before it and its size, and the numbers v after it, are small
pub record IsPivot (width : ℕ) (a v : List ℤ) (i e den size : ℕ) : Type 0 where
  pub inside : i * width + width ≤ length a
  pub room : HasRoom width (2 ^ 62) a
  pub square : length v ≡ width * width
  pub column : e < width
  pub den_some : 0 < den
  pub den_small : den ≤ 2 ^ 62
  pub size_small : size ≤ 2 ^ 62
  pub numbers_small : IsSmall (2 ^ 62) v

-- the row x of the side l over a denominator, where these variables stand in the columns
pub record IsRefuting (s : LinearSystem) (k : List ℕ) (nonbasic : List ℕ) (x : List ℤ) (den l : ℕ) : Type 0 where
  pub scales : AreScales s k
  pub columns : length nonbasic ≡ s.width
  pub below : (c : ℕ) → c < s.width → variable_at nonbasic c < count s
  pub row_size : length x ≡ s.width
  pub some : 0 < den
  pub side : s.width ≤ l
  pub leaves : l < count s

-- of the multipliers over a denominator, those of the sides in the first columns stand in the list, and no others do
pub record HasColumnMultipliers (width : ℕ) (k : List ℕ) (nonbasic : List ℕ) (x : List ℤ) (den columns : ℕ) (m : List ℚ) : Type 0 where
  pub inside : (seats : List Seat) → AreNonbasic width seats nonbasic
      → (c : ℕ) → c < columns → width ≤ variable_at nonbasic c → coordinate m (variable_at nonbasic c - width) ≡ frac (neg_ℤ (whole_at x c *ℤ pos (scale_at k (variable_at nonbasic c)))) den
  pub outside : (i : ℕ) → ((c : ℕ) → c < columns → width + i ≡ variable_at nonbasic c → ⊥) → coordinate m i ≡ int (pos 0)

-- where the row of l refutes at the end of the run, the rows from one on and before another have the multiplier 0
pub record AreUnused (s : LinearSystem) (l from to : ℕ) : Type 0 where
  pub each : (i : ℕ) → from ≤ i → i < to → multiplier s (last_position s) l i ≡ int (pos 0)

-- A position of the run in whole numbers: the coefficients of the unknowns over one denominator, row by row, where a nonbasic variable has
-- the column of its seat. Each row of the system is whole once it is multiplied by its scale.
use Rattle.std.specs.Prelude.{◌≡◌, ℕ, ◌+◌, ◌*◌, ◌<◌, ◌≤◌, ◌^◌, List, length, ℤ, pos, ◌+ℤ◌, ◌*ℤ◌, neg_ℤ, unsigned_abs, slice_get, Some, set}
use Rattle.mpc_exact.specs.Rational.{ℚ, frac}
use Rattle.mpc_rows.specs.LinearSystem.{LinearSystem, height}
use Rattle.mpc_rows.specs.Run.{Position, count, value, position, steps}
use Rattle.mpc_rows.specs.RunWidth.{PositionFits}
use Rattle.mpc_runs.specs.WholeNumbers.{whole_total, turned}
use Rattle.mpc_scaled.specs.Scaled.{whole_at, whole_cell, IsSmall, scale_at}
use Rattle.mpc_runs.specs.declared.variables.Seat.{Seat}
use Rattle.mpc_runs.specs.declared.variables.Seat.TheVariants.{Row, Column}
use Rattle.mpc_runs.specs.Table.{seat_at, in_row}

-- a bound of the right sides, with room for a sum of so many
pub record HasSideBound (s : LinearSystem) (b : List ℤ) (most : ℕ) : Type 0 where
  pub sides : IsSmall most b
  pub some_side : 1 ≤ most
  pub side_room : count s * most ≤ 2 ^ 62

-- bounds of the coefficients, of the right sides and of the scales, and of what a position may have
pub record AreBounds (s : LinearSystem) (k : List ℕ) (a b : List ℤ) (most_entry most_side most_scale most : ℕ) : Type 0 where
  pub entries : IsSmall most_entry a
  pub sides : HasSideBound s b most_side
  pub scales : (x : ℕ) → scale_at k x ≤ most_scale
  pub room : (s.width * (most_entry * most)) * most_scale ≤ 2 ^ 62
  pub top : most * most_scale ≤ 2 ^ 62

-- the numbers over the denominator, times the scale of the column's variable, are the coefficients of the unknowns at a position
pub record IsForm (s : LinearSystem) (n : ℕ) (seats : List Seat) (k : List ℕ) (den : ℕ) (v : List ℤ) (p : Position) : Type 0 where
  pub some : 0 < den
  pub basic : (x : ℕ) → x < n → p.is_basic x ≡ in_row (seat_at seats x)
  pub entries : (j y c : ℕ) → j < s.width → y < n → seat_at seats y ≡ Column c → p.coefficient j y ≡ frac (whole_cell s.width v j c *ℤ pos (scale_at k y)) den

-- the row of side i: a_i V
abbrev pub side_cell : LinearSystem → List ℤ → List ℤ → ℕ → ℕ → ℤ
side_cell s a v i c = whole_total s.width (λ j. whole_cell s.width a i j *ℤ whole_cell s.width v j c)

-- the numbers of a position are so small, with their scales, that no operation at it is wide
pub record IsNarrow (s : LinearSystem) (n : ℕ) (seats : List Seat) (k : List ℕ) (a : List ℤ) (den : ℕ) (v : List ℤ) : Type 0 where
  pub dens : (x : ℕ) → x < n → den * scale_at k x ≤ 2 ^ 62
  pub numbers : (j y c : ℕ) → j < s.width → y < n → seat_at seats y ≡ Column c → unsigned_abs (whole_cell s.width v j c) * scale_at k y ≤ 2 ^ 62
  pub rows : (i y c : ℕ) → i < height s → y < n → seat_at seats y ≡ Column c → unsigned_abs (side_cell s a v i c) * scale_at k y ≤ 2 ^ 62

-- the row of side i
pub record IsSideRow (s : LinearSystem) (a v : List ℤ) (i : ℕ) (x : List ℤ) : Type 0 where
  pub size : length x ≡ s.width
  pub cells : (c : ℕ) → c < s.width → whole_at x c ≡ side_cell s a v i c

-- the numbers after a pivot where the row x leaves and the column e enters
pub record IsWholePivot (width den : ℕ) (old new x : List ℤ) (e : ℕ) : Type 0 where
  pub column : (j : ℕ) → j < width → whole_cell width new j e ≡ turned (whole_at x e) (whole_cell width old j e)
  pub others : (j c : ℕ) → j < width → c < width → (c ≡ e → ⊥)
      → whole_cell width new j c *ℤ pos den ≡ (whole_cell width old j c *ℤ pos (unsigned_abs (whole_at x e))) +ℤ neg_ℤ (turned (whole_at x e) (whole_cell width old j e) *ℤ whole_at x c)

-- the values of the unknowns at a position are these numbers over the denominator
pub record AreValues (s : LinearSystem) (p : Position) (den : ℕ) (c_1 c_2 : List ℤ) : Type 0 where
  pub first : (j : ℕ) → j < s.width → (value s p j).first ≡ frac (whole_at c_1 j) den
  pub second : (j : ℕ) → j < s.width → (value s p j).second ≡ frac (whole_at c_2 j) den

-- and those of the sides are these, each over the scale of its row too
pub record HasSideValues (s : LinearSystem) (k : List ℕ) (a : List ℤ) (p : Position) (den : ℕ) (c_1 c_2 : List ℤ) : Type 0 where
  pub first : (i : ℕ) → i < height s → (value s p (s.width + i)).first ≡ frac (whole_total s.width (λ j. whole_cell s.width a i j *ℤ whole_at c_1 j)) (den * scale_at k (s.width + i))
  pub second : (i : ℕ) → i < height s → (value s p (s.width + i)).second ≡ frac (whole_total s.width (λ j. whole_cell s.width a i j *ℤ whole_at c_2 j)) (den * scale_at k (s.width + i))

-- which variables are basic at a position
pub record HasBasis (n : ℕ) (seats : List Seat) (p : Position) : Type 0 where
  pub basic : (x : ℕ) → x < n → p.is_basic x ≡ in_row (seat_at seats x)

-- the coefficients of a variable's row on the nonbasic ones are these numbers, times the scale of the column's variable, over the
-- denominator and the scale of the row's
pub record IsRowOf (n : ℕ) (seats : List Seat) (k : List ℕ) (p : Position) (den : ℕ) (l : ℕ) (x : List ℤ) : Type 0 where
  pub own : 0 < scale_at k l
  pub some : (y : ℕ) → y < n → 0 < scale_at k y
  pub coefficients : (y c : ℕ) → y < n → seat_at seats y ≡ Column c → p.coefficient l y ≡ frac (whole_at x c *ℤ pos (scale_at k y)) (den * scale_at k l)

-- z times a factor is the number of row j and column c after a pivot, over the product of the denominator before it and the size of the pivot
pub record IsChanged (width factor den : ℕ) (old x : List ℤ) (j e c : ℕ) (z : ℤ) : Type 0 where
  pub entering : c ≡ e → z *ℤ pos factor ≡ turned (whole_at x e) (whole_cell width old j e) *ℤ pos den
  pub other : (c ≡ e → ⊥) → z *ℤ pos factor ≡ (whole_cell width old j c *ℤ pos (unsigned_abs (whole_at x e))) +ℤ neg_ℤ (turned (whole_at x e) (whole_cell width old j e) *ℤ whole_at x c)

-- bounds of the numbers of a system, and of what a position may have
pub record HasBounds (s : LinearSystem) (k : List ℕ) (a b : List ℤ) (most : ℕ) : Type 0 where
  pub most_entry : ℕ
  pub most_side : ℕ
  pub most_scale : ℕ
  pub bounds : AreBounds s k a b most_entry most_side most_scale most

-- these pairs are those of the numbers over the denominator
pub record ArePairs (den : ℕ) (c_1 c_2 : List ℤ) (v : List (ℚ × ℚ)) : Type 0 where
  pub size : length v ≡ length c_1
  pub at : (j : ℕ) → j < length c_1 → (q : ℚ × ℚ) × (slice_get v j ≡ Some q) × (q.0 ≡ frac (whole_at c_1 j) den) × (q.1 ≡ frac (whole_at c_2 j) den)

-- the numbers stand for a position of the run, and what was formed before it fits
pub record Stands (s : LinearSystem) (n : ℕ) (seats : List Seat) (k : List ℕ) (den : ℕ) (v : List ℤ) : Type 0 where
  pub at : ℕ
  pub order : at ≤ steps s
  pub before : (q : ℕ) → q < at → PositionFits s (position s q)
  pub form : IsForm s n seats k den v (position s at)

-- the seats after l has left and e entered
pub record IsSwapped (old new : List Seat) (l e : ℕ) : Type 0 where
  pub seats : (r c : ℕ) → seat_at old l ≡ Row r → seat_at old e ≡ Column c → new ≡ set (set old l (Column c)) e (Row r)

-- the unit matrix
pub record IsUnit (width : ℕ) (v : List ℤ) : Type 0 where
  pub diagonal : (j : ℕ) → j < width → whole_cell width v j j ≡ pos 1
  pub others : (j c : ℕ) → j < width → c < width → (j ≡ c → ⊥) → whole_cell width v j c ≡ pos 0

-- A run in whole numbers out of which common divisors are taken, where the sizes of each row's own numbers show that no operation is wide.
use Rattle.std.specs.Prelude.{◌≡◌, ℕ, suc, ◌+◌, ◌-◌, ◌*◌, ◌<◌, ◌≤◌, ◌^◌, ◌⊎◌, true, false, cond, ltb, List, length, ℤ, pos, ◌+ℤ◌, ◌*ℤ◌, neg_ℤ, unsigned_abs, Some}
use Rattle.mpc_exact.specs.Rational.{ℚ, frac, ◌*ℚ◌, neg_ℚ, inv_ℚ}
use Rattle.mpc_frac.specs.Fits.{FitsFrac, FitsSum}
use Rattle.mpc_rows.specs.Least.{least}
use Rattle.mpc_rows.specs.LinearSystem.{LinearSystem, height}
use Rattle.mpc_rows.specs.Run.{Position, goes_on, count, rest, may_leave, may_enter, turn, position}
use Rattle.mpc_rows.specs.RunWidth.{ValueFits, RowFits, PositionFits}
use Rattle.mpc_runs.specs.declared.variables.Seat.{Seat}
use Rattle.mpc_runs.specs.declared.variables.Seat.TheVariants.{Column}
use Rattle.mpc_runs.specs.Table.{seat_at, in_row, IsSeated, AreNonbasic}
use Rattle.mpc_whole.specs.Norms.{Over}
use Rattle.mpc_whole.specs.Whole.{side_cell, Stands}
use Rattle.mpc_runs.specs.WholeNumbers.{turned}
use Rattle.mpc_scaled.specs.Scaled.{whole_at, whole_cell, scale_at, IsSmall}
use Rattle.mpc_whole.specs.Underway.{IsUnderway}
use Rattle.mpc_whole.specs.SharedSizes.{IsSmallForm, AreSmallBefore}

-- a number of a row in the column of y, by which no term of the row's value is wide, nor a product with a number of at most such a size: one is
-- for the column of e, the other for all other columns
pub record HasRoomAt (s : LinearSystem) (k : List ℕ) (b : List ℤ) (e top size y : ℕ) (z : ℤ) : Type 0 where
  pub entering : y ≡ e → (unsigned_abs z * scale_at k y) * top ≤ 2 ^ 125
  pub other : (y ≡ e → ⊥) → (unsigned_abs z * scale_at k y) * size ≤ 2 ^ 125
  pub first : s.width ≤ y → count s * (unsigned_abs z * unsigned_abs (whole_at b (y - s.width))) ≤ 2 ^ 125
  pub second : count s * (unsigned_abs z * scale_at k y) ≤ 2 ^ 125

-- so are the numbers of all rows at a position
pub record IsJudged (s : LinearSystem) (n : ℕ) (seats : List Seat) (k : List ℕ) (a b : List ℤ) (den : ℕ) (v : List ℤ) (e top size : ℕ) : Type 0 where
  pub dens : (x : ℕ) → x < n → (den * scale_at k x) * size ≤ 2 ^ 125
  pub whole : (x : ℕ) → x < n → den * scale_at k x ≤ 2 ^ 125
  pub unknowns : (j y c : ℕ) → j < s.width → y < n → seat_at seats y ≡ Column c → HasRoomAt s k b e top size y (whole_cell s.width v j c)
  pub sides : (i y c : ℕ) → i < height s → y < n → seat_at seats y ≡ Column c → HasRoomAt s k b e top size y (side_cell s a v i c)

-- the number of the row x of the variable l in the column of e is at most a size, with its scale, and no other one is above a top, nor is the
-- row's own scale
pub record IsRowWithin (n : ℕ) (seats : List Seat) (k : List ℕ) (l e : ℕ) (x : List ℤ) (top size : ℕ) : Type 0 where
  pub own : scale_at k l ≤ top
  pub entering : (y c : ℕ) → y < n → seat_at seats y ≡ Column c → y ≡ e → unsigned_abs (whole_at x c) * scale_at k y ≤ size
  pub others : (y c : ℕ) → y < n → seat_at seats y ≡ Column c → (y ≡ e → ⊥) → unsigned_abs (whole_at x c) * scale_at k y ≤ top

-- ---- a pivot that is judged row by row
-- the number in a column of a variable's row
abbrev pub row_cell : LinearSystem → List ℤ → List ℤ → ℕ → ℕ → ℤ
row_cell s a v x c = cond (ltb x s.width) (whole_cell s.width v x c) (side_cell s a v (x - s.width) c)

-- the coefficient of y in the row of x that is this number, over the denominator and both scales
abbrev pub coefficient_of : List ℕ → ℕ → ℕ → ℕ → ℤ → ℚ
coefficient_of k den x y z = frac (z *ℤ pos (scale_at k y)) (den * scale_at k x)

-- the variables stand so at a position, these of them in the columns, where the unknowns have these numbers over a denominator
pub record IsPlaced (s : LinearSystem) (n : ℕ) (seats : List Seat) (nonbasic : List ℕ) (den : ℕ) (v : List ℤ) : Type 0 where
  pub seated : IsSeated (height s) s.width n seats
  pub columns : AreNonbasic s.width seats nonbasic
  pub square : length v ≡ s.width * s.width
  pub some : 0 < den

-- l leaves there, with a row of numbers over a rest of the denominator, and e enters
pub record IsPivotThere (s : LinearSystem) (n : ℕ) (seats : List Seat) (l e rest : ℕ) (row : List ℤ) : Type 0 where
  pub leaves : l < n
  pub enters : e < n
  pub free : in_row (seat_at seats e) ≡ false
  pub some : 0 < rest
  pub row_size : length row ≡ s.width

-- the sizes of the numbers in the row of x show that no stated operation on it is wide where e enters
pub record IsRowBelow (s : LinearSystem) (n : ℕ) (seats : List Seat) (k : List ℕ) (a : List ℤ) (den : ℕ) (v : List ℤ) (e top size x : ℕ) : Type 0 where
  pub room : (den * scale_at k x) * size ≤ 2 ^ 125
  pub entering : (y c : ℕ) → y < n → seat_at seats y ≡ Column c → y ≡ e → (unsigned_abs (row_cell s a v x c) * scale_at k y) * top ≤ 2 ^ 125
  pub others : (y c : ℕ) → y < n → seat_at seats y ≡ Column c → (y ≡ e → ⊥) → (unsigned_abs (row_cell s a v x c) * scale_at k y) * size ≤ 2 ^ 125

-- no stated operation is wide by which a row with this factor changes a coefficient, where this is the one of the row that leaves
pub record IsTermStated (old factor number pivot : ℚ) : Type 0 where
  pub quotient : FitsFrac (neg_ℚ number *ℚ inv_ℚ pivot)
  pub product : FitsFrac (factor *ℚ (neg_ℚ number *ℚ inv_ℚ pivot))
  pub sum : FitsSum old (factor *ℚ (neg_ℚ number *ℚ inv_ℚ pivot))

-- no stated operation on the row of x is wide where the row of l leaves, with these numbers over a rest of the denominator, and e enters
pub record IsRowStated (s : LinearSystem) (n : ℕ) (seats : List Seat) (k : List ℕ) (a : List ℤ) (den : ℕ) (v : List ℤ) (l e rest : ℕ) (row : List ℤ) (x : ℕ) : Type 0 where
  pub leaving : (c : ℕ) → seat_at seats e ≡ Column c → FitsFrac (coefficient_of k den x e (row_cell s a v x c) *ℚ inv_ℚ (coefficient_of k rest l e (whole_at row c)))
  pub terms : (y c d : ℕ) → y < n → (y ≡ e → ⊥) → seat_at seats e ≡ Column c → seat_at seats y ≡ Column d
      → IsTermStated (coefficient_of k den x y (row_cell s a v x d)) (coefficient_of k den x e (row_cell s a v x c)) (coefficient_of k rest l y (whole_at row d)) (coefficient_of k rest l e (whole_at row c))

-- the sizes of a position's numbers show that its values fit, and each row is judged in one of these ways
pub record IsJudgedByRows (s : LinearSystem) (n : ℕ) (seats : List Seat) (k : List ℕ) (a b : List ℤ) (den : ℕ) (v : List ℤ) (l e rest : ℕ) (row : List ℤ) (top size : ℕ) : Type 0 where
  pub values : IsJudged s n seats k a b den v 0 0 0
  pub rows : (x : ℕ) → x < n → in_row (seat_at seats x) ≡ true → IsRowBelow s n seats k a den v e top size x ⊎ IsRowStated s n seats k a den v l e rest row x

-- a pivot is judged by the sizes in each column, or row by row
abbrev pub IsPivotJudged : LinearSystem → ℕ → List Seat → List ℕ → List ℤ → List ℤ → ℕ → List ℤ → ℕ → ℕ → ℕ → List ℤ → ℕ → ℕ → Type 0
IsPivotJudged s n seats k a b den v l e rest row top size = IsJudged s n seats k a b den v e top size ⊎ IsJudgedByRows s n seats k a b den v l e rest row top size

-- a sum of so many products of these numbers with others is at most so many times the greatest of those
pub record IsNorm (width : ℕ) (a : List ℤ) (norm : ℕ) : Type 0 where
  pub most : ℕ
  pub each : IsSmall most a
  pub some : 1 ≤ norm
  pub rows : width * most ≤ norm

-- the coefficients have this norm, and no scale and no right side is greater than these
pub record HasSizes (width : ℕ) (k : List ℕ) (a b : List ℤ) (norm most_scale most_side : ℕ) : Type 0 where
  pub coefficients : IsNorm width a norm
  pub scales : (x : ℕ) → scale_at k x ≤ most_scale
  pub sides : IsSmall most_side b

-- a row is this one times a divisor
pub record IsTimes (divisor : ℕ) (x row : List ℤ) : Type 0 where
  pub size : length row ≡ length x
  pub each : (c : ℕ) → c < length x → whole_at row c ≡ whole_at x c *ℤ pos divisor

-- the row x is that of side i over a divisor of it and of the denominator, of which so much is left
pub record IsDividedRow (s : LinearSystem) (a v : List ℤ) (i den divisor rest : ℕ) (x : List ℤ) : Type 0 where
  pub size : length x ≡ s.width
  pub cells : (c : ℕ) → c < s.width → whole_at x c *ℤ pos divisor ≡ side_cell s a v i c
  pub some : 0 < divisor
  pub split : divisor * rest ≡ den

-- the numbers after a pivot where the row x leaves and the column e enters, over the denominator size: a factor is taken out of those over
-- the product of the denominator before it and the number of x in that column
pub record IsReducedPivot (width den : ℕ) (old new x : List ℤ) (e size : ℕ) : Type 0 where
  pub factor : ℕ
  pub some : 0 < factor
  pub over : factor * size ≡ den * unsigned_abs (whole_at x e)
  pub column : (j : ℕ) → j < width → whole_cell width new j e *ℤ pos factor ≡ turned (whole_at x e) (whole_cell width old j e) *ℤ pos den
  pub others : (j c : ℕ) → j < width → c < width → (c ≡ e → ⊥)
      → whole_cell width new j c *ℤ pos factor ≡ (whole_cell width old j c *ℤ pos (unsigned_abs (whole_at x e))) +ℤ neg_ℤ (turned (whole_at x e) (whole_cell width old j e) *ℤ whole_at x c)

-- the row of l, which leaves: its number in the column of the variable that enters, over its denominator, is at most a size, and no other one is
-- above a top, nor is its scale
pub record IsLeavingRow (s : LinearSystem) (p : Position) (k : List ℕ) (d f top size l e : ℕ) : Type 0 where
  pub entering : e ≡ f
  pub pivot : Over (d * scale_at k l) size (p.coefficient l e)
  pub others : (y : ℕ) → y < count s → (y ≡ e → ⊥) → Over (d * scale_at k l) top (p.coefficient l y)
  pub own : scale_at k l ≤ top

-- the numbers of the row of side i have room, and so has the denominator
pub record IsSideJudged (s : LinearSystem) (seats : List Seat) (k : List ℕ) (a b : List ℤ) (den : ℕ) (v : List ℤ) (e top size i : ℕ) : Type 0 where
  pub dens : (den * scale_at k (s.width + i)) * size ≤ 2 ^ 125
  pub whole : den * scale_at k (s.width + i) ≤ 2 ^ 125
  pub cells : (y c : ℕ) → y < count s → seat_at seats y ≡ Column c → HasRoomAt s k b e top size y (side_cell s a v i c)

-- what is formed of the row of x at a position fits
pub record IsRowFitting (s : LinearSystem) (p : Position) (x : ℕ) : Type 0 where
  pub value : ValueFits s (count s) p x
  pub row : (l e : ℕ) → turn s p ≡ goes_on l e → RowFits (count s) p l e x

-- ---- what is kept of the positions before, so that further rows can be judged there
-- a system with further rows has at most so many variables where what is kept serves
abbrev pub most_variables : ℕ
most_variables = 1024

-- a weight is at least what a row with the coefficient 1 of one unknown alone forms of this number, which the unknown has in the column of y: its
-- products where a row of these sizes leaves and e enters, and so many of its terms of a value
pub record IsWeighedAt (s : LinearSystem) (k : List ℕ) (e top size y : ℕ) (z : ℤ) (weight : ℕ) : Type 0 where
  pub entering : y ≡ e → (unsigned_abs z * scale_at k y) * top ≤ weight
  pub other : (y ≡ e → ⊥) → (unsigned_abs z * scale_at k y) * size ≤ weight
  pub first : s.width ≤ y → (x : ℤ) → (rest s y).first ≡ frac x (scale_at k y) → most_variables * (unsigned_abs z * unsigned_abs x) ≤ weight
  pub second : most_variables * (unsigned_abs z * scale_at k y) ≤ weight

-- small numbers stand for the position, the row that leaves there is over a part of their denominator, each unknown's numbers are weighed, and the
-- denominator times the pivot's size is at most a product
pub record IsMildForm (s : LinearSystem) (k : List ℕ) (p : Position) (most most_den : ℕ) (weight : ℕ → ℕ) (product : ℕ) : Type 0 where
  pub form : IsSmallForm s k p most most_den
  pub divisor : ℕ
  pub left : ℕ
  pub split : divisor * left ≡ form.den
  pub enters : ℕ
  pub top : ℕ
  pub size : ℕ
  pub row : (l e : ℕ) → turn s p ≡ goes_on l e → IsLeavingRow s p k left enters top size l e
  pub weighed : (j y c : ℕ) → j < s.width → y < count s → seat_at form.seats y ≡ Column c → IsWeighedAt s k enters top size y (whole_cell s.width form.numbers j c) (weight j)
  pub dens : form.den * size ≤ product

-- so at all positions before this one
pub record AreMildBefore (s : LinearSystem) (k : List ℕ) (after most most_den : ℕ) (weight : ℕ → ℕ) (product : ℕ) : Type 0 where
  pub each : (q : ℕ) → q < after → IsMildForm s k (position s q) most most_den weight product

-- the run stands at this position, and the ones before are such, if their product is known
pub record IsMildlyUnderway (s : LinearSystem) (n : ℕ) (seats : List Seat) (k : List ℕ) (den : ℕ) (v c_1 c_2 : List ℤ) (most most_den : ℕ) (weight : ℕ → ℕ) (product first : ℕ) : Type 0 where
  pub underway : IsUnderway s n seats k den v c_1 c_2 most most_den first
  pub before : product < 2 ^ 127 → AreMildBefore s k underway.stands.at most most_den weight product

-- and l leaves there and e enters
pub record IsGoingOn (s : LinearSystem) (n : ℕ) (seats : List Seat) (k : List ℕ) (den : ℕ) (v c_1 c_2 : List ℤ) (most most_den : ℕ) (weight : ℕ → ℕ) (product first l e : ℕ) : Type 0 where
  pub underway : IsMildlyUnderway s n seats k den v c_1 c_2 most most_den weight product first
  pub leaves : Some l ≡ least (may_leave s (position s underway.underway.stands.at)) n
  pub enters : Some e ≡ least (may_enter s (position s underway.underway.stands.at) l) n

-- l leaves and e enters where the run stands, all that is formed there fits, and the position is kept with the ones before, if their product is known
pub record IsPositionKept (s : LinearSystem) (n : ℕ) (seats : List Seat) (k : List ℕ) (den : ℕ) (v : List ℤ) (most most_den : ℕ) (weight : ℕ → ℕ) (product l e : ℕ) : Type 0 where
  pub stands : Stands s n seats k den v
  pub leaves : Some l ≡ least (may_leave s (position s stands.at)) n
  pub enters : Some e ≡ least (may_enter s (position s stands.at) l) n
  pub fits : PositionFits s (position s stands.at)
  pub small : AreSmallBefore s k (suc stands.at) most most_den
  pub before : product < 2 ^ 127 → AreMildBefore s k (suc stands.at) most most_den weight product

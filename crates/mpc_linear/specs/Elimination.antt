-- Gauss-Jordan elimination over unbounded fractions: the table after each column, and which numbers of a run must fit.
use Rattle.std.specs.Prelude.{◌≡◌, ◌≢◌, ℕ, zero, suc, ◌-◌, ◌<◌, Bool, if◌then◌else◌, nat_eq, nat_lt, unsigned_abs, pos, Option, Some, None}
use Rattle.mpc_exact.specs.Rational.{ℚ, int, ◌*ℚ◌, ◌-ℚ◌, ◌/ℚ◌, neg_ℚ}
use Rattle.mpc_frac.specs.Fits.{FitsFrac, FitsSum}
use Rattle.mpc_space.specs.Matrix.{RationalMatrix, entry}

-- entries by row and column, each counted from 0
abbrev pub Table : Type 0
Table = ℕ → ℕ → ℚ

-- m with the right sides behind its columns
unfoldable pub augmented : RationalMatrix → RationalMatrix → Table
augmented m rhs i j = if nat_lt j m.columns then entry m i j else entry rhs i (j - m.columns)

abbrev pub is_zero : ℚ → Bool
is_zero x = nat_eq (unsigned_abs x.numer) 0

-- the first of so many rows from row i on whose entry in column j isn't 0
unfoldable pub first_nonzero : Table → ℕ → ℕ → ℕ → Option ℕ
first_nonzero t j i zero = None
first_nonzero t j i (suc count) = if is_zero (t i j) then first_nonzero t j (suc i) count else Some i

-- the pivot of column c in a table of n rows: the first row at or below row c with an entry that isn't 0
unfoldable pub pivot_row : ℕ → Table → ℕ → Option ℕ
pivot_row n t c = first_nonzero t c c (n - c)

-- which row stands in row i once rows c and p have changed places
unfoldable pub exchanged_row : ℕ → ℕ → ℕ → ℕ
exchanged_row c p i = if nat_eq i c then p else (if nat_eq i p then c else i)

unfoldable pub exchanged : ℕ → ℕ → Table → Table
exchanged c p t i = t (exchanged_row c p i)

-- row c divided by its pivot, and so much of it taken away from each other row that column c is 0 there
unfoldable pub reduced : ℕ → Table → Table
reduced c t i j = if nat_eq i c then t c j /ℚ t c c else t i j -ℚ t i c *ℚ (t c j /ℚ t c c)

-- the table after a column with this pivot; a column without one changes nothing
unfoldable pub after_column : ℕ → Table → Option ℕ → Table
after_column c t None = t
after_column c t (Some p) = reduced c (exchanged c p t)

-- the table after the first columns
unfoldable pub eliminated : ℕ → Table → ℕ → Table
eliminated n t zero = t
eliminated n t (suc c) = after_column c (eliminated n t c) (pivot_row n (eliminated n t c) c)

-- ---- the numbers that must fit
-- Each operation of column c, whose pivot stands in row c: right of the column the quotients of row c, and for each other row with an
-- entry that isn't 0 in column c the products and the differences.
pub record ColumnFits (n width c : ℕ) (t : Table) : Type 0 where
  pub quotients : (j : ℕ) → c < j → j < width → FitsFrac (t c j /ℚ t c c)
  pub products : (i j : ℕ) → i < n → i ≢ c → t i c ≢ int (pos 0) → c < j → j < width → FitsFrac (t i c *ℚ (t c j /ℚ t c c))
  pub differences : (i j : ℕ) → i < n → i ≢ c → t i c ≢ int (pos 0) → c < j → j < width → FitsSum (t i j) (neg_ℚ (t i c *ℚ (t c j /ℚ t c c)))

-- column c has its pivot in row p, and its operations fit
pub record ColumnDone (n width : ℕ) (t : Table) (c p : ℕ) : Type 0 where
  pub pivot : pivot_row n (eliminated n t c) c ≡ Some p
  pub fits : ColumnFits n width c (exchanged c p (eliminated n t c))

-- each column before column c has a pivot, and its operations fit
abbrev pub ColumnsDone : ℕ → ℕ → Table → ℕ → Type 0
ColumnsDone n width t c = (k : ℕ) → k < c → (p : ℕ) × ColumnDone n width t k p

-- column c is the first without a pivot, and the operations of the columns before it fit
pub record EndsDependent (n width : ℕ) (t : Table) (c : ℕ) : Type 0 where
  pub before : ColumnsDone n width t c
  pub below : c < n
  pub no_pivot : pivot_row n (eliminated n t c) c ≡ None

-- column c is the first with an operation that doesn't fit, and each column up to it has a pivot
pub record EndsWide (n width : ℕ) (t : Table) (c : ℕ) : Type 0 where
  pub before : ColumnsDone n width t c
  pub below : c < n
  pub pivot : ℕ
  pub has_pivot : pivot_row n (eliminated n t c) c ≡ Some pivot
  pub wide : ¬ ColumnFits n width c (exchanged c pivot (eliminated n t c))

-- A table that is stored row by row in one list, and what the steps of a column make of it.
use Rattle.std.specs.Prelude.{◌≡◌, ◌≢◌, ℕ, ◌+◌, ◌*◌, ◌<◌, ◌≤◌, List, slice_index_or, pos, Option, Some, None}
use Rattle.mpc_exact.specs.Rational.{ℚ, int, ◌*ℚ◌, ◌-ℚ◌, ◌/ℚ◌}
use Rattle.mpc_frac.specs.Fits.{FitsFrac}
use Rattle.mpc_linear.specs.Dot.{TakenFits}
use Rattle.mpc_linear.specs.Elimination.{Table, ColumnsDone, EndsDependent, EndsWide, eliminated}

abbrev pub stored : ℕ → List ℚ → Table
stored width xs i j = slice_index_or xs (i * width + j) (int (pos 0))

-- the two tables agree in the first rows, from column c on
abbrev pub SameFrom : ℕ → ℕ → ℕ → Table → Table → Type 0
SameFrom n width c t s = (i j : ℕ) → i < n → c ≤ j → j < width → t i j ≡ s i j

-- s is t with row c divided by its entry in column c, to the right of that column
pub record IsDivided (n width c : ℕ) (t s : Table) : Type 0 where
  pub pivot : (j : ℕ) → c < j → j < width → s c j ≡ t c j /ℚ t c c
  pub front : (i j : ℕ) → i < n → j ≤ c → s i j ≡ t i j
  pub others : (i j : ℕ) → i < n → i ≢ c → j < width → s i j ≡ t i j

abbrev pub QuotientsFit : ℕ → ℕ → Table → Type 0
QuotientsFit width c t = (j : ℕ) → c < j → j < width → FitsFrac (t c j /ℚ t c c)

-- s is t with row c, times the entry of row i in column c, taken away from row i to the right of that column
pub record IsTaken (n width c i : ℕ) (t s : Table) : Type 0 where
  pub row : (j : ℕ) → c < j → j < width → s i j ≡ t i j -ℚ t i c *ℚ t c j
  pub front : (k j : ℕ) → k < n → j ≤ c → s k j ≡ t k j
  pub others : (k j : ℕ) → k < n → k ≢ i → j < width → s k j ≡ t k j

abbrev pub RowTakenFits : ℕ → ℕ → ℕ → Table → Type 0
RowTakenFits width c i t = t i c ≢ int (pos 0) → (j : ℕ) → c < j → j < width → TakenFits (t i j) (t i c) (t c j)

-- so for each row but row c
pub record IsCleared (n width c : ℕ) (t s : Table) : Type 0 where
  pub rows : (i j : ℕ) → i < n → i ≢ c → c < j → j < width → s i j ≡ t i j -ℚ t i c *ℚ t c j
  pub pivot : (j : ℕ) → j < width → s c j ≡ t c j

abbrev pub RowsTakenFit : ℕ → ℕ → ℕ → Table → Type 0
RowsTakenFit n width c t = (i : ℕ) → i < n → i ≢ c → RowTakenFits width c i t

-- how the elimination of the stored table t ends: with every column done, or at a column without a pivot, from 1
abbrev pub EndsAt : ℕ → ℕ → Table → Option ℕ → Type 0
EndsAt n width t None = ColumnsDone n width t n
EndsAt n width t (Some column) = (index : ℕ) × (column ≡ index + 1) × EndsDependent n width t index

abbrev pub IsWideAt : ℕ → ℕ → Table → ℕ → Type 0
IsWideAt n width t column = (index : ℕ) × (column ≡ index + 1) × EndsWide n width t index

-- the columns behind the square part, once every column is done
abbrev pub ShowsSolution : ℕ → ℕ → Table → Table → Option ℕ → Type 0
ShowsSolution n width t s None = SameFrom n width n s (eliminated n t n)
ShowsSolution n width t s (Some column) = Unit {0}

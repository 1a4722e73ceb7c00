-- A swept table in whole numbers over one denominator.
use Rattle.std.specs.Prelude.{◌≡◌, ℕ, ◌+◌, ◌-◌, ◌*◌, ◌<◌, ◌≤◌, ◌^◌, List, length, get_or, ℤ, unsigned_abs}
use Rattle.mpc_exact.specs.Rational.{frac}
use Rattle.mpc_linear.specs.Elimination.{Table}
use Rattle.mpc_scaled.specs.Scaled.{whole_cell, IsSmall}
use Rattle.mpc_sweep.specs.declared.numbers.Swept.{Swept}
use Rattle.mpc_sweep.specs.Sweeps.{swept, HasPivots, AreRising, SweepsFit}

-- how many columns are told
abbrev pub told_columns : Swept → ℕ
told_columns s = s.columns - s.first

-- the number in row i and column j, if the column is told
abbrev pub number : Swept → ℕ → ℕ → ℤ
number s i j = whole_cell (told_columns s) s.numbers.items i j

-- the shape of the list, and sizes that leave room for sums of two products
pub record IsTable (s : Swept) : Type 0 where
  pub told : s.first ≤ s.columns
  pub size : length s.numbers.items ≡ s.first + s.rows * told_columns s
  pub some_den : 0 < s.den
  pub small_den : s.den ≤ 2 ^ 62
  pub small : IsSmall (2 ^ 62) s.numbers.items
  pub most_small : s.most ≤ 2 ^ 62
  pub most_den : s.den ≤ s.most
  pub most : IsSmall s.most s.numbers.items

-- before the first sweep the entries are small whole numbers over one scale
pub record IsWholeTable (t : Table) (rows columns : ℕ) : Type 0 where
  pub scale : ℕ
  pub numbers : ℕ → ℕ → ℤ
  pub some_scale : 0 < scale
  pub small_scale : scale ≤ 2 ^ 62
  pub small : (i j : ℕ) → i < rows → j < columns → unsigned_abs (numbers i j) ≤ 2 ^ 58
  pub entries : (i j : ℕ) → i < rows → j < columns → t i j ≡ frac (numbers i j) scale

-- The numbers stand for the table that is swept at these rows, in the columns from this one on, which are told; all numbers of the
-- sweeps fit.
pub record IsSwept (t : Table) (ps : List ℕ) (rows columns first : ℕ) (s : Swept) : Type 0 where
  pub rows_are : s.rows ≡ rows
  pub columns_are : s.columns ≡ columns
  pub told : s.first ≤ first
  pub table : IsTable s
  pub whole : IsWholeTable t rows columns
  pub entries : (i j : ℕ) → i < rows → first ≤ j → j < columns → swept t ps i j ≡ frac (number s i j) s.den
  pub rising : AreRising ps
  pub within : (k : ℕ) → k < length ps → get_or ps k 0 < rows
  pub columns_within : (k : ℕ) → k < length ps → get_or ps k 0 < columns
  pub pivots : HasPivots t ps
  pub fits : SweepsFit t ps rows columns first

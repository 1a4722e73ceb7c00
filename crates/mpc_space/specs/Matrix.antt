-- A matrix of fractions: its rows, and its number of columns, which a matrix without rows keeps too.
use Rattle.std.specs.Prelude.{◌≡◌, ℕ, List, length, map, All}
use Rattle.std.specs.List.{range_with_len}
use Rattle.mpc_exact.specs.Rational.{ℚ}
use Rattle.mpc_space.specs.Vector.{cell, column, dot, listed}
use Rattle.mpc_space.specs.Total.{unit}

pub record RationalMatrix : Type 0 where
  pub rows : List (List ℚ)
  pub columns : ℕ

abbrev pub height : RationalMatrix → ℕ
height m = length m.rows

-- each row has one entry for each column
abbrev pub IsRectangular : RationalMatrix → Type 0
IsRectangular m = All (λ row. length row ≡ m.columns) m.rows

-- the entry of row i and column j, counted from 0
abbrev pub entry : RationalMatrix → ℕ → ℕ → ℚ
entry m i j = cell m.rows i j

-- the matrix of so many rows and columns with the entries f i j
abbrev pub tabled : ℕ → ℕ → (ℕ → ℕ → ℚ) → RationalMatrix
tabled rows columns f = record { rows = map (λ i. listed columns (f i)) (range_with_len 0 rows); columns = columns }

-- the matrix that leaves each vector of n entries as it is
abbrev pub identity : ℕ → RationalMatrix
identity n = tabled n n unit

-- the product: entry (i, j) is the dot of row i of a with column j of b
abbrev pub mat_mul : RationalMatrix → RationalMatrix → RationalMatrix
mat_mul a b = record { rows = map (λ row. listed b.columns (λ j. dot row (column b.rows j))) a.rows; columns = b.columns }

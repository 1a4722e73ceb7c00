-- What is kept of a table whose first columns are eliminated: of each entry the number, where all numbers on the way to it fit.
use Rattle.std.specs.Prelude.{◌≡◌, ℕ, ◌+◌, ◌*◌, ◌<◌, ◌≤◌, min, List, length, get_or, Option, None, IfSome, IsSomeAnd, ◌≢◌, pos}
use Rattle.mpc_exact.specs.Rational.{ℚ, int}
use Rattle.mpc_frac.specs.Fits.{FitsFrac}
use Rattle.mpc_space.specs.Matrix.{RationalMatrix, height, entry}
use Rattle.mpc_linear.specs.Elimination.{Table}
use Rattle.mpc_bordered.specs.Fronts.{front, HasFront, EntryFits}

-- v stands in row i and column j once the first k columns are eliminated, and all numbers on the way to it fit
pub record IsFormed (t : Table) (k i j : ℕ) (v : ℚ) : Type 0 where
  pub value : v ≡ front t k i j
  pub fits : FitsFrac v
  pub before : (c : ℕ) → c < k → EntryFits c (front t c) i j

abbrev pub IfFormed : Table → ℕ → ℕ → ℕ → Option ℚ → Type 0
IfFormed t k i j o = IfSome o (IsFormed t k i j)

-- so for each entry of column j
abbrev pub IsFormedColumn : Table → ℕ → ℕ → List (Option ℚ) → Type 0
IsFormedColumn t k j xs = (i : ℕ) → i < length xs → IfFormed t k i j (get_or xs i None)

-- and for so many columns of so many rows, one behind another; of the first u columns each is formed with those before it
abbrev pub AreFormed : Table → ℕ → ℕ → ℕ → List (Option ℚ) → Type 0
AreFormed t u rows columns xs = (i j : ℕ) → i < rows → j < columns → IfFormed t (min j u) i j (get_or xs (j * rows + i) None)

-- a pivot that fits
abbrev pub HasPivot : Option ℚ → Type 0
HasPivot o = IsSomeAnd o (λ v. v ≢ int (pos 0))

-- what is kept of a table once its first u columns are eliminated, each with its pivot in its own row
pub record IsKept (t : RationalMatrix) (u : ℕ) (xs : List (Option ℚ)) : Type 0 where
  pub rows_enough : u ≤ height t
  pub columns_enough : u ≤ t.columns
  pub size : length xs ≡ t.columns * height t
  pub pivots : HasFront (entry t) u
  pub formed : AreFormed (entry t) u (height t) t.columns xs

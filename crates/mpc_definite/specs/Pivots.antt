-- Gauss's elimination of a symmetric matrix with its pivots on the diagonal, over fractions without a bound. Rows and columns are
-- counted from 0 here, and only the pivot that an error names from 1.
use Rattle.std.specs.Prelude.{◌≡◌, ℕ, zero, suc, ◌-◌, ◌<◌, ◌≤◌, List, length, get_or, pos}
use Rattle.mpc_exact.specs.Rational.{ℚ, int, ◌-ℚ◌, ◌*ℚ◌, ◌/ℚ◌, ◌≤ℚ◌, ◌<ℚ◌}
use Rattle.mpc_frac.specs.Fits.{FitsFrac}
use Rattle.mpc_linear.specs.Dot.{TakenFits}
use Rattle.mpc_linear.specs.Shape.{HasShape}
use Rattle.mpc_space.specs.Matrix.{RationalMatrix, height, entry}
use Rattle.mpc_space.specs.Total.{total}

-- m without what column j contributes: the Schur complement of the entry in row and column j
abbrev pub without_column : (ℕ → ℕ → ℚ) → ℕ → ℕ → ℕ → ℚ
without_column m j i k = m i k -ℚ (m i j /ℚ m j j) *ℚ m k j

-- what is left of h once its first columns are eliminated
unfoldable pub left_of : (ℕ → ℕ → ℚ) → ℕ → ℕ → ℕ → ℚ
left_of h zero i k = h i k
left_of h (suc j) i k = without_column (left_of h j) j i k

abbrev pub pivot : (ℕ → ℕ → ℚ) → ℕ → ℚ
pivot h j = left_of h j j j

-- how much of row j goes into row i
abbrev pub factor : (ℕ → ℕ → ℚ) → ℕ → ℕ → ℚ
factor h i j = left_of h j i j /ℚ pivot h j

-- h = l d l', with l lower triangular of diagonal 1, and d positive on its diagonal
pub record IsDecomposition (h l : RationalMatrix) (d : List ℚ) : Type 0 where
  pub shape : HasShape l (height h) (height h)
  pub length_is : length d ≡ height h
  pub diagonal : (i : ℕ) → i < height h → entry l i i ≡ int (pos 1)
  pub above : (i k : ℕ) → i < k → k < height h → entry l i k ≡ int (pos 0)
  pub positive : (i : ℕ) → i < height h → int (pos 0) <ℚ get_or d i (int (pos 0))
  pub product : (i k : ℕ) → i < height h → k < height h →
      entry h i k ≡ total (height h) (λ m. entry l i m *ℚ get_or d m (int (pos 0)) *ℚ entry l k m)

-- ---- when a number is too wide: each operation on row i, as column j of m is eliminated below the diagonal
pub record RowFits (m : ℕ → ℕ → ℚ) (j i : ℕ) : Type 0 where
  pub quotient : FitsFrac (m i j /ℚ m j j)
  pub entries : (k : ℕ) → j < k → k ≤ i → TakenFits (m i k) (m i j /ℚ m j j) (m k j)

-- each operation on each row below row j, of n rows
pub record StepFits (m : ℕ → ℕ → ℚ) (n j : ℕ) : Type 0 where
  pub rows : (i : ℕ) → j < i → i < n → RowFits m j i

-- the first steps have a positive pivot and fit
pub record PassesBelow (h : ℕ → ℕ → ℚ) (n j : ℕ) : Type 0 where
  pub positive : (m : ℕ) → m < j → int (pos 0) <ℚ pivot h m
  pub fits : (m : ℕ) → m < j → StepFits (left_of h m) n m

-- the pivot of step j, from 1, is the first that isn't positive
pub record IsFirstNotPositive (h : ℕ → ℕ → ℚ) (n j : ℕ) : Type 0 where
  pub some : 0 < j
  pub within : j ≤ n
  pub before : PassesBelow h n (j - 1)
  pub here : pivot h (j - 1) ≤ℚ int (pos 0)

-- step j, from 1, is the first that doesn't fit
pub record IsFirstWide (h : ℕ → ℕ → ℚ) (n j : ℕ) : Type 0 where
  pub some : 0 < j
  pub within : j ≤ n
  pub before : PassesBelow h n (j - 1)
  pub positive : int (pos 0) <ℚ pivot h (j - 1)
  pub here : StepFits (left_of h (j - 1)) n (j - 1) → ⊥

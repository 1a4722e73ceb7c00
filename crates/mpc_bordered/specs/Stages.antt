-- Further columns beside the first ones of a table: what the elimination of these makes of them, column by column, and what it says of a system
-- whose right side is a combination of them.
use Rattle.std.specs.Prelude.{◌≡◌, ℕ, suc, ◌+◌, ◌-◌, ◌<◌, cond, nat_lt}
use Rattle.mpc_exact.specs.Rational.{ℚ, ◌*ℚ◌, ◌-ℚ◌, neg_ℚ}
use Rattle.mpc_frac.specs.Fits.{FitsFrac, FitsSum}
use Rattle.mpc_space.specs.Matrix.{RationalMatrix, entry}
use Rattle.mpc_space.specs.Total.{total}
use Rattle.mpc_linear.specs.Elimination.{Table}
use Rattle.mpc_linear.specs.Shape.{HasShape}
use Rattle.mpc_linear.specs.Solution.{IsOnlySolution, FitsTo}
use Rattle.mpc_linear.specs.declared.elimination.Solved.TheVariants.{Unique}
use Rattle.mpc_bordered.specs.declared.kept.Kept.{Kept}
use Rattle.mpc_bordered.specs.Fronts.{front, EntryFits}
use Rattle.mpc_bordered.specs.Kept.{IsFormed}

-- the first u columns of a table, and the columns f behind them
unfoldable pub widened : Table → ℕ → Table → Table
widened t u f i j = cond (nat_lt j u) (t i j) (f i (j - u))

-- s has the first u rows of the columns f, once the first c columns of the table are eliminated, and all numbers on the way to them fit
pub record IsStage (t : Table) (u : ℕ) (f : Table) (columns c : ℕ) (s : RationalMatrix) : Type 0 where
  pub shape : HasShape s u columns
  pub entries : (i j : ℕ) → i < u → j < columns → IsFormed (widened t u f) c i (u + j) (entry s i j)

-- v is the number in row i and column j of the columns with the other sign
pub record IsOpposite (s : RationalMatrix) (i j : ℕ) (v : ℚ) : Type 0 where
  pub value : v ≡ neg_ℚ (entry s i j)
  pub fits : FitsFrac v

-- v is the number in row i and column j one column later
abbrev pub IsNextNumber : Table → ℕ → RationalMatrix → ℕ → ℕ → ℕ → ℚ → Type 0
IsNextNumber t u s c i j v = (f : Table) → IsStage t u f s.columns c s → IsFormed (widened t u f) (suc c) i (u + j) v

-- the operations of the first u rows fit that form column c of the table
abbrev pub ColumnForms : Table → ℕ → ℕ → Type 0
ColumnForms t u c = (k i : ℕ) → k < c → i < u → EntryFits k (front t k) i c

-- ---- one right side
-- its number in row i, once the first c columns are eliminated
abbrev pub combined : Table → ℕ → Table → ℕ → (ℕ → ℚ) → ℕ → ℕ → ℚ
combined t u f columns z c i = total columns (λ j. front (widened t u f) c i (u + j) *ℚ z j)

-- the operations fit that make the number new of the number old: a quotient, or a product that is taken away
pub record ChangeFits (old new : ℚ) : Type 0 where
  pub quotient : FitsFrac new
  pub product : FitsFrac (old -ℚ new)
  pub difference : FitsSum old (neg_ℚ (old -ℚ new))

-- m X = rhs is the system of the first u rows and columns of the table, whose right side is the columns f, each times its number of z; and
-- x is what its elimination leaves
pub record IsCombined (t : Table) (u : ℕ) (f : Table) (columns : ℕ) (z : ℕ → ℚ) (m rhs x : RationalMatrix) : Type 0 where
  pub shape : HasShape m u u
  pub right_shape : HasShape rhs u 1
  pub solution_shape : HasShape x u 1
  pub entries : (i j : ℕ) → i < u → j < u → entry m i j ≡ t i j
  pub right_entries : (i : ℕ) → i < u → entry rhs i 0 ≡ total columns (λ j. f i j *ℚ z j)
  pub solution_entries : (i : ℕ) → i < u → entry x i 0 ≡ combined t u f columns z u i

-- where the operations on the first columns and on the right side fit, x is the one solution, as the elimination finds it
abbrev pub CombinedAnswers : Type 0
CombinedAnswers = (k : Kept) (f : Table) (columns : ℕ) (z : ℕ → ℚ) (m rhs x : RationalMatrix) → IsCombined (entry k.table) k.front f columns z m rhs x
    → ((c : ℕ) → c < k.front → ColumnForms (entry k.table) k.front c)
    → ((c i : ℕ) → c < k.front → i < k.front → ChangeFits (combined (entry k.table) k.front f columns z c i) (combined (entry k.table) k.front f columns z (suc c) i))
    → IsOnlySolution m rhs x × FitsTo m rhs (Unique x)

-- Parts of a table: its first rows and columns, and some of those behind them.
use Rattle.std.specs.Prelude.{◌≡◌, ℕ, ◌+◌, ◌-◌, ◌<◌, ◌≤◌, cond, nat_lt, List, ◌++◌, length, get_or, Option, IfSome}
use Rattle.mpc_exact.specs.Rational.{ℚ}
use Rattle.mpc_frac.specs.Fits.{FitsFrac}
use Rattle.mpc_space.specs.Matrix.{RationalMatrix, height, entry}
use Rattle.mpc_linear.specs.Elimination.{Table}
use Rattle.mpc_linear.specs.Shape.{HasShape}
use Rattle.mpc_linear.specs.declared.elimination.Solved.{Solved}
use Rattle.mpc_bordered.specs.Fronts.{front, EntryFits}
use Rattle.mpc_bordered.specs.Filling.{FillsRow, FillsTable}

-- which row or column of the table stands in place i: one of the first u, and behind them those of the list
abbrev pub place : ℕ → List ℕ → ℕ → ℕ
place u rows i = cond (nat_lt i u) i (get_or rows (i - u) 0)

-- the part with these rows, the columns of the same numbers, and these right sides behind them
unfoldable pub part : Table → ℕ → List ℕ → List ℕ → Table
part t u rows rights i j = t (place u rows i) (place u (rows ++ rights) j)

-- the rows and the right sides are such of the table, behind the first u
pub record ArePlaces (t : RationalMatrix) (u : ℕ) (rows rights : List ℕ) : Type 0 where
  pub behind : (k : ℕ) → k < length rows → u ≤ get_or rows k 0
  pub within : (k : ℕ) → k < length rows → get_or rows k 0 < height t
  pub columns_within : (k : ℕ) → k < length rows → get_or rows k 0 < t.columns
  pub rights_behind : (k : ℕ) → k < length rights → u ≤ get_or rights k 0
  pub rights_within : (k : ℕ) → k < length rights → get_or rights k 0 < t.columns

-- m X = rhs is the system of the part
pub record IsPart (t : RationalMatrix) (u : ℕ) (rows rights : List ℕ) (m rhs : RationalMatrix) : Type 0 where
  pub shape : HasShape m (u + length rows) (u + length rows)
  pub right_shape : HasShape rhs (u + length rows) (length rights)
  pub entries : (i j : ℕ) → i < u + length rows → j < u + length rows → entry m i j ≡ part (entry t) u rows rights i j
  pub right_entries : (i j : ℕ) → i < u + length rows → j < length rights → entry rhs i j ≡ part (entry t) u rows rights i (u + length rows + j)

-- what holds of each system of the part
abbrev pub ForPart : RationalMatrix → ℕ → List ℕ → List ℕ → (RationalMatrix → RationalMatrix → Type 0) → Type 0
ForPart t u rows rights P = (m rhs : RationalMatrix) → IsPart t u rows rights m rhs → P m rhs

-- what holds of an answer, where there is one
abbrev pub IfSolved : RationalMatrix → ℕ → List ℕ → List ℕ → Option Solved → (RationalMatrix → RationalMatrix → Solved → Type 0) → Type 0
IfSolved t u rows rights o P = IfSome o (λ s. ForPart t u rows rights (λ m rhs. P m rhs s))

-- ---- the numbers of a part p
-- v stands in row i and column j once the first u columns are eliminated, and all numbers on the way to it fit
pub record IsPicked (p : Table) (u i j : ℕ) (v : ℚ) : Type 0 where
  pub value : v ≡ front p u i j
  pub fits : FitsFrac v
  pub before : (c : ℕ) → c < u → c < j → EntryFits c (front p c) i j

-- row i has the numbers of the part from its column first on, and the other rows are as they were
abbrev pub PicksRow : Table → ℕ → ℕ → RationalMatrix → RationalMatrix → ℕ → Type 0
PicksRow p u first old new i = FillsRow (λ j. IsPicked p u i (first + j)) old new i

-- so for so many rows and columns
abbrev pub PicksTable : Table → ℕ → ℕ → ℕ → ℕ → RationalMatrix → Type 0
PicksTable p u first rows columns m = FillsTable (λ i j. IsPicked p u i (first + j)) rows columns m

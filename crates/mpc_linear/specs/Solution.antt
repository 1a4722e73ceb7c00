-- What becomes of a linear system m X = rhs.
use Rattle.std.specs.Prelude.{◌≡◌, ℕ, ◌+◌, ◌<◌, ◌≤◌, List, length, pos}
use Rattle.mpc_exact.specs.Rational.{ℚ, int}
use Rattle.mpc_space.specs.Vector.{coordinate, mat_vec, IsZero}
use Rattle.mpc_space.specs.Matrix.{RationalMatrix, mat_mul}
use Rattle.mpc_linear.specs.Shape.{HasShape}
use Rattle.mpc_linear.specs.Elimination.{augmented, ColumnsDone, EndsDependent, EndsWide}
use Rattle.mpc_linear.specs.declared.elimination.Solved.{Solved}
use Rattle.mpc_linear.specs.declared.elimination.Solved.TheVariants.{Unique, Dependent}

-- x solves m x = rhs, and no other matrix of its shape does
pub record IsOnlySolution (m rhs x : RationalMatrix) : Type 0 where
  pub shape : HasShape x m.columns rhs.columns
  pub solves : mat_mul m x ≡ rhs
  pub only : (y : RationalMatrix) → HasShape y m.columns rhs.columns → mat_mul m y ≡ rhs → y ≡ x

-- column index of m, from 0, is a combination of those before it, and these are independent
pub record IsFirstDependent (m : RationalMatrix) (index : ℕ) : Type 0 where
  pub below : index < m.columns
  -- what m sends to 0: 1 in this column, and 0 behind it
  pub factors : List ℚ
  pub size : length factors ≡ m.columns
  pub one : coordinate factors index ≡ int (pos 1)
  pub behind : (k : ℕ) → index < k → coordinate factors k ≡ int (pos 0)
  pub sent_to_zero : IsZero (mat_vec m.rows factors)
  -- and only the list of zeros where there is 0 in this column too
  pub independent : (v : List ℚ) → length v ≡ m.columns → ((k : ℕ) → index ≤ k → coordinate v k ≡ int (pos 0)) → IsZero (mat_vec m.rows v) → IsZero v

-- The answer is the one solution; or it names the first column, from 1, that depends on those before it, and then no right side has a
-- unique solution. Without right sides the matrix without columns is the only solution even then.
abbrev pub IsAnswer : RationalMatrix → RationalMatrix → Solved → Type 0
IsAnswer m rhs (Unique x) = IsOnlySolution m rhs x
IsAnswer m rhs (Dependent column) = (index : ℕ) × (column ≡ index + 1) × IsFirstDependent m index × (0 < rhs.columns → (x : RationalMatrix) → ¬ IsOnlySolution m rhs x)

-- the table of the elimination of m with its right sides
abbrev pub width : RationalMatrix → RationalMatrix → ℕ
width m rhs = m.columns + rhs.columns

-- all operations before this answer fit
abbrev pub FitsTo : RationalMatrix → RationalMatrix → Solved → Type 0
FitsTo m rhs (Unique x) = ColumnsDone m.columns (width m rhs) (augmented m rhs) m.columns
FitsTo m rhs (Dependent column) = (index : ℕ) × (column ≡ index + 1) × EndsDependent m.columns (width m rhs) (augmented m rhs) index

-- column, from 1, is the first with an operation that doesn't fit, and each column up to it has a pivot
abbrev pub IsWideColumn : RationalMatrix → RationalMatrix → ℕ → Type 0
IsWideColumn m rhs column = (index : ℕ) × (column ≡ index + 1) × EndsWide m.columns (width m rhs) (augmented m rhs) index

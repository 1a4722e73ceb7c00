-- Matrices of which a block of entries is written.
use Rattle.std.specs.Prelude.{◌≡◌, ℕ, ◌<◌, ◌≤◌, List, [], slice_index_or}
use Rattle.mpc_exact.specs.Rational.{ℚ}
use Rattle.mpc_space.specs.Matrix.{RationalMatrix, height, IsRectangular, entry}

-- row i, counted from 0
abbrev pub row_at : RationalMatrix → ℕ → List ℚ
row_at m i = slice_index_or m.rows i []

-- the place (a, b) lies in the rows from r0 to below r1 and the columns from c0 to below c1
pub record IsInBlock (r0 r1 c0 c1 a b : ℕ) : Type 0 where
  pub from_row : r0 ≤ a
  pub to_row : a < r1
  pub from_column : c0 ≤ b
  pub to_column : b < c1

-- the entries of the block are those of f, and every other entry is as it was
pub record WritesBlock (old new : RationalMatrix) (r0 r1 c0 c1 : ℕ) (f : ℕ → ℕ → ℚ) : Type 0 where
  pub height_is : height new ≡ height old
  pub columns_is : new.columns ≡ old.columns
  pub rectangular : IsRectangular new
  pub inside : (a b : ℕ) → IsInBlock r0 r1 c0 c1 a b → entry new a b ≡ f a b
  pub outside : (a b : ℕ) → (IsInBlock r0 r1 c0 c1 a b → ⊥) → entry new a b ≡ entry old a b

-- a fact for each place of the block
pub record AllInBlock (r0 r1 c0 c1 : ℕ) (F : ℕ → ℕ → Type 0) : Type 0 where
  pub each : (a b : ℕ) → IsInBlock r0 r1 c0 c1 a b → F a b

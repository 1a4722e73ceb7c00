-- Theorems of matrices that are stored row by row in one list.
use Rattle.std.specs.Prelude.{◌≡◌, ℕ, ◌+◌, ◌*◌, ◌<◌, List, pos, length, slice_set, replicate}
use Rattle.mpc_exact.specs.Rational.{ℚ, int}
use Rattle.mpc_space.specs.Matrix.{height, IsRectangular}
use Rattle.mpc_linear.specs.Grid.{grid}
use Rattle.mpc_linear.specs.Entries.{with_entry, zero_matrix}

pub record GridTheorems : Type 0 where
  -- the counts
  pub rows : (count width : ℕ) (xs : List ℚ) → height (grid count width xs) ≡ count
  pub columns : (count width : ℕ) (xs : List ℚ) → (grid count width xs).columns ≡ width
  pub rectangular : (count width : ℕ) (xs : List ℚ) → length xs ≡ count * width → IsRectangular (grid count width xs)
  -- an entry's place in the list
  pub place : (count width i j : ℕ) → i < count → j < width → i * width + j < count * width
  pub entry_set : (count width : ℕ) (xs : List ℚ) (i j : ℕ) (v : ℚ) → i < count → j < width → grid count width (slice_set xs (i * width + j) v) ≡ with_entry (grid count width xs) i j v
  pub zeros : (count width : ℕ) → grid count width (replicate (count * width) (int (pos 0))) ≡ zero_matrix count width

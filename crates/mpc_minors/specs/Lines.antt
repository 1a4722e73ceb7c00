-- One row more than there are unknowns, in whole numbers: of each row its coefficients, then its right side.
use Rattle.std.specs.Prelude.{◌≡◌, ℕ, ◌+◌, ◌*◌, ◌<◌, ◌≤◌, ◌^◌, cond, eqb, List, length, ℤ, unsigned_abs}
use Rattle.mpc_exact.specs.Rational.{ℚ, int, ◌*ℚ◌, ◌≤ℚ◌}
use Rattle.mpc_space.specs.Total.{total}
use Rattle.mpc_scaled.specs.Scaled.{whole_cell}

-- the number of row i on unknown j, and its right side where j is the width
abbrev pub line_number : ℕ → List ℤ → ℕ → ℕ → ℤ
line_number width lines i j = whole_cell (width + 1) lines i j

-- the values of the unknowns meet row i
abbrev pub MeetsLine : ℕ → List ℤ → (ℕ → ℚ) → ℕ → Type 0
MeetsLine width lines x i = total width (λ j. int (line_number width lines i j) *ℚ x j) ≤ℚ int (line_number width lines i width)

-- no values meet all rows
pub record HaveNoPoint (width : ℕ) (lines : List ℤ) : Type 0 where
  pub none : (x : ℕ → ℚ) → ((i : ℕ) → i < width + 1 → MeetsLine width lines x i) → ⊥

-- the greatest size that a coefficient may have in two unknowns, and in three
abbrev pub most_coefficient : ℕ → ℕ
most_coefficient width = cond (eqb width 2) (2 ^ 30) (2 ^ 19)

pub record AreSmallLines (width : ℕ) (lines : List ℤ) : Type 0 where
  pub size : length lines ≡ (width + 1) * (width + 1)
  pub coefficients : (i j : ℕ) → i < width + 1 → j < width → unsigned_abs (line_number width lines i j) ≤ most_coefficient width
  pub sides : (i : ℕ) → i < width + 1 → unsigned_abs (line_number width lines i width) ≤ 2 ^ 56

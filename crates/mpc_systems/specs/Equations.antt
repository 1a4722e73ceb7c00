-- Matrices that are made entry by entry, and where the members of a set stand in a table of all rows.
use Rattle.std.specs.Prelude.{◌≡◌, ℕ, ◌+◌, ◌-◌, ◌<◌, List, length, get_or, Result, IfOk}
use Rattle.std.specs.Fn.{Shared, AnyResult}
use Rattle.mpc_exact.specs.Rational.{ℚ}
use Rattle.mpc_space.specs.Matrix.{RationalMatrix, tabled}

-- where each call of the function gives the entry of f, the matrix is that of f
abbrev pub IsTabledBy : {F E : Type 0} → Shared F (ℕ × (ℕ × Unit {0})) ℚ → F → ℕ → ℕ → Result RationalMatrix E → Type 0
IsTabledBy g entry rows columns r =
    (f : ℕ → ℕ → ℚ)
    → ((i j : ℕ) → i < rows → j < columns → AnyResult g entry (i, (j, tt)) (λ x. x ≡ f i j))
    → IfOk r (λ m. m ≡ tabled rows columns f)

-- where the members of a set stand among the rows and the columns of a table whose first n are those of the unknowns, and in which one for each
-- row of the program follows
pub record AreMemberPlaces (n : ℕ) (s places : List ℕ) : Type 0 where
  pub size : length places ≡ length s
  pub at : (k : ℕ) → k < length s → get_or places k 0 ≡ n + (get_or s k 0 - 1)

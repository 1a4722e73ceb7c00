-- A matrix stored row by row in one list.
use Rattle.std.specs.Prelude.{ℕ, zero, suc, List, [], ◌∷◌, take, drop}
use Rattle.mpc_exact.specs.Rational.{ℚ}
use Rattle.mpc_space.specs.Matrix.{RationalMatrix}

-- the first rows of a list that is cut into rows of the same width
abbrev pub rows_of : ℕ → ℕ → List ℚ → List (List ℚ)
rows_of zero width xs = []
rows_of (suc count) width xs = take width xs ∷ rows_of count width (drop width xs)

unfoldable pub grid : ℕ → ℕ → List ℚ → RationalMatrix
grid count width xs = record { rows = rows_of count width xs; columns = width }

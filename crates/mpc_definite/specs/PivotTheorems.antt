-- What the pivots of a symmetric matrix tell.
use Rattle.std.specs.Prelude.{ℕ, ◌<◌, List, length, pos}
use Rattle.mpc_exact.specs.Rational.{ℚ, int, ◌≤ℚ◌, ◌<ℚ◌}
use Rattle.mpc_space.specs.Vector.{cell, IsSymmetric}
use Rattle.mpc_space.specs.Definite.{IsDefinite}
use Rattle.mpc_definite.specs.Pivots.{pivot}

-- the first n pivots of h are positive
abbrev pub ArePositive : List (List ℚ) → ℕ → Type 0
ArePositive h n = (j : ℕ) → j < n → int (pos 0) <ℚ pivot (cell h) j

-- where all are, the matrix is positive definite
abbrev pub DefiniteByPivots : Type 0
DefiniteByPivots = (h : List (List ℚ)) → IsSymmetric h → ArePositive h (length h) → IsDefinite h

-- where the first that isn't positive is there, it isn't
abbrev pub NotDefiniteByPivot : Type 0
NotDefiniteByPivot = (h : List (List ℚ)) (j : ℕ) → IsSymmetric h → j < length h → ArePositive h j → pivot (cell h) j ≤ℚ int (pos 0) → ¬ IsDefinite h

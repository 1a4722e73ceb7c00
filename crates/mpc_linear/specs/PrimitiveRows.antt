-- Theorems of rows in whole numbers without a common divisor.
use Rattle.std.specs.Prelude.{◌≡◌, List, [], ◌∷◌, ◌++◌}
use Rattle.mpc_exact.specs.Rational.{ℚ}
use Rattle.mpc_linear.specs.declared.integers.RowInt.{RowInt}
use Rattle.mpc_linear.specs.Whole.{WholeFits, IsScaledRow, IsPrimitive, AreSmall}

-- the row a t ≤ b in whole numbers without a common divisor
pub record IsPrimitiveRow (a : List ℚ) (b : ℚ) (row : RowInt) : Type 0 where
  pub scaled : IsScaledRow a b row.a row.b
  pub primitive : IsPrimitive (row.a ++ row.b ∷ [])

-- there is one at most
abbrev pub OnePrimitiveRow : Type 0
OnePrimitiveRow = (a : List ℚ) (b : ℚ) (r s : RowInt) → IsPrimitiveRow a b r → IsPrimitiveRow a b s → r ≡ s

-- its numbers are below 2^127 in size where the least common denominator and the numerators over it are
abbrev pub SmallPrimitiveRow : Type 0
SmallPrimitiveRow = (a : List ℚ) (b : ℚ) (row : RowInt) → WholeFits (a ++ b ∷ []) → IsPrimitiveRow a b row → AreSmall (row.a ++ row.b ∷ [])

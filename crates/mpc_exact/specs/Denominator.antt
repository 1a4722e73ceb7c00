-- The least common denominator of fractions.
use Rattle.std.specs.Prelude.{ℕ, List, [], ◌∷◌}
use Rattle.std.specs.Int.{◌∣◌}
use Rattle.mpc_exact.specs.Gcd.{lcm}
use Rattle.mpc_exact.specs.Rational.{ℚ}

-- each denominator divides n
abbrev pub IsCommonDenom : ℕ → List ℚ → Type 0
IsCommonDenom n [] = Unit {0}
IsCommonDenom n (x ∷ xs) = (x.denom ∣ n) × IsCommonDenom n xs

-- the least such n above 0
unfoldable pub common_denom : List ℚ → ℕ
common_denom [] = 1
common_denom (x ∷ xs) = lcm x.denom (common_denom xs)

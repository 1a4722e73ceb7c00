-- Rows and affine forms in whole numbers.
use Rattle.std.specs.Prelude.{◌≡◌, ℕ, ◌/◌, ◌^◌, ◌<◌, ◌≤◌, ◌⊎◌, ℤ, pos, ◌*ℤ◌, ◌<ℤ◌, unsigned_abs, List, map, All}
use Rattle.std.specs.Int.{◌∣◌}
use Rattle.mpc_exact.specs.Rational.{ℚ, int, quotient, ◌*ℚ◌, IsPositive}
use Rattle.mpc_exact.specs.Denominator.{common_denom, IsCommonDenom}
use Rattle.mpc_space.specs.Vector.{vec_scale}

-- the numerator of x over l, a multiple of its denominator
abbrev pub scaled : ℕ → ℚ → ℤ
scaled l x = x.numer *ℤ pos (l / x.denom)

-- each of the numerators over l fits
abbrev pub ScaledFit : ℕ → List ℚ → Type 0
ScaledFit l c = All (λ x. unsigned_abs (scaled l x) < 2 ^ 127) c

-- the least common denominator fits, and so does each numerator over it
pub record WholeFits (c : List ℚ) : Type 0 where
  pub denom : common_denom c < 2 ^ 127
  pub numers : ScaledFit (common_denom c) c

-- the integers k over den are the fractions c, and den is their least common denominator: the positive one that divides each other,
-- so that none of the positive ones is less
pub record IsLeastForm (c : List ℚ) (den : ℤ) (k : List ℤ) : Type 0 where
  pub positive : pos 0 <ℤ den
  pub same : map (λ z. quotient z den) k ≡ c
  pub common : IsCommonDenom (unsigned_abs den) c
  pub divides : (n : ℕ) → IsCommonDenom n c → unsigned_abs den ∣ n
  pub least : (n : ℕ) → 0 < n → IsCommonDenom n c → unsigned_abs den ≤ n

-- the integers row and side are the fractions a and b, each times the same positive factor
pub record IsScaledRow (a : List ℚ) (b : ℚ) (row : List ℤ) (side : ℤ) : Type 0 where
  pub factor : ℚ
  pub positive : IsPositive factor
  pub left : map int row ≡ vec_scale factor a
  pub right : int side ≡ factor *ℚ b

-- n divides each of the integers
abbrev pub DividesAll : ℕ → List ℤ → Type 0
DividesAll n zs = All (λ z. n ∣ unsigned_abs z) zs

-- the greatest common divisor of the integers; 0 where all are 0
pub record IsShared (g : ℕ) (zs : List ℤ) : Type 0 where
  pub divides : DividesAll g zs
  pub greatest : (n : ℕ) → DividesAll n zs → n ∣ g

abbrev pub AreSmall : List ℤ → Type 0
AreSmall zs = All (λ z. unsigned_abs z < 2 ^ 127) zs

-- no number but 1 divides all of the integers, or they are all 0
abbrev pub IsPrimitive : List ℤ → Type 0
IsPrimitive zs = ((n : ℕ) → DividesAll n zs → n ≡ 1) ⊎ All (λ z. z ≡ pos 0) zs

-- Which numbers a `Frac` can hold, and the parts of a product.
use Rattle.std.specs.Prelude.{ℕ, ◌^◌, ◌<◌, ◌*◌, ◌/◌, unsigned_abs, ℤ, pos, ◌+ℤ◌, ◌*ℤ◌}
use Rattle.mpc_exact.specs.Gcd.{gcd}
use Rattle.mpc_exact.specs.Rational.{ℚ}

abbrev pub FitsFrac : ℚ → Type 0
FitsFrac x = (unsigned_abs x.numer < 2 ^ 127) × (x.denom < 2 ^ 127)

-- what cancels crosswise in x y
abbrev pub cross_left : ℚ → ℚ → ℕ
cross_left x y = gcd (unsigned_abs x.numer) y.denom

abbrev pub cross_right : ℚ → ℚ → ℕ
cross_right x y = gcd (unsigned_abs y.numer) x.denom

-- the size of the numerator of x y, and its denominator
abbrev pub size_of_product : ℚ → ℚ → ℕ
size_of_product x y = (unsigned_abs x.numer / cross_left x y) * (unsigned_abs y.numer / cross_right x y)

abbrev pub denom_of_product : ℚ → ℚ → ℕ
denom_of_product x y = (x.denom / cross_right x y) * (y.denom / cross_left x y)

-- ---- the parts of a sum: a/b + c/d over the denominator b (d/g), where g is what b and d have in common
abbrev pub common : ℚ → ℚ → ℕ
common x y = gcd x.denom y.denom

abbrev pub left_of_sum : ℚ → ℚ → ℤ
left_of_sum x y = x.numer *ℤ pos (y.denom / common x y)

abbrev pub right_of_sum : ℚ → ℚ → ℤ
right_of_sum x y = y.numer *ℤ pos (x.denom / common x y)

abbrev pub denom_of_sum : ℚ → ℚ → ℕ
denom_of_sum x y = x.denom * (y.denom / common x y)

-- each number on the way to the sum lies below 2^127 in size
pub record FitsSum (x y : ℚ) : Type 0 where
  pub left : unsigned_abs (left_of_sum x y) < 2 ^ 127
  pub right : unsigned_abs (right_of_sum x y) < 2 ^ 127
  pub sum : unsigned_abs (left_of_sum x y +ℤ right_of_sum x y) < 2 ^ 127
  pub denom : denom_of_sum x y < 2 ^ 127

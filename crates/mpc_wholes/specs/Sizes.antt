-- How large whole numbers over one denominator are.
use Rattle.std.specs.Prelude.{◌≡◌, ℕ, ◌^◌, ◌<◌, ◌≤◌, ℤ, unsigned_abs, List, length, All}

-- there are six numerators; none of them, nor the denominator, is above this number in size, which fits 127 bits
pub record AreAtMost (numerators : List ℤ) (den most : ℕ) : Type 0 where
  pub size : length numerators ≡ 6
  pub numbers : All (λ z. unsigned_abs z ≤ most) numerators
  pub some : 0 < den
  pub den_small : den ≤ most
  pub most_small : most < 2 ^ 127

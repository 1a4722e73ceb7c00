-- How large right sides over one denominator are.
use Rattle.std.specs.Prelude.{ℕ, ◌*◌, ◌^◌, ◌<◌, ◌≤◌, ℤ, pos, unsigned_abs, List, length, get_or}

-- neither the denominator nor a numerator is above these numbers in size
pub record AreSmallSides (numerators : List ℤ) (den : ℕ) : Type 0 where
  pub some : 0 < den
  pub den_small : den ≤ 2 ^ 44
  pub numbers : (k : ℕ) → k < length numerators → unsigned_abs (get_or numerators k (pos 0)) ≤ 6 * 2 ^ 64

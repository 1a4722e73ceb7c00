-- Fractions over one denominator.
use Rattle.std.specs.Prelude.{◌≡◌, ℕ, ◌<◌, ◌≤◌, ◌^◌, pos, List, [], length, get_or}
use Rattle.mpc_exact.specs.Rational.{ℚ, frac}
use Rattle.mpc_space.specs.Vector.{coordinate}
use Rattle.mpc_space.specs.Matrix.{RationalMatrix, height}
use Rattle.mpc_wholes.specs.declared.numbers.Wholes.{Wholes}

-- a denominator of at most 2^124
pub record IsDenominator (den : ℕ) : Type 0 where
  pub some : 0 < den
  pub small : den ≤ 2 ^ 124

-- the fractions are the first numerators over the denominator
pub record IsOver (xs : List ℚ) (w : Wholes) : Type 0 where
  pub few : length xs ≤ length w.numerators
  pub entries : (k : ℕ) → k < length xs → coordinate xs k ≡ frac (get_or w.numerators k (pos 0)) w.den

-- over this denominator, and neither it nor a numerator is above the limit
pub record AreOver (xs : List ℚ) (den limit : ℕ) (w : Wholes) : Type 0 where
  pub over : IsOver xs w
  pub den_is : w.den ≡ den
  pub most : w.most ≤ limit

-- so are the rows of a matrix
pub record AreRowsOver (m : RationalMatrix) (den limit : ℕ) (rows : List Wholes) : Type 0 where
  pub size : length rows ≡ height m
  pub at : (i : ℕ) (d : Wholes) → i < height m → AreOver (get_or m.rows i []) den limit (get_or rows i d)

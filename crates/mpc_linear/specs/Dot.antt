-- Which numbers of a dot must fit.
use Rattle.std.specs.Prelude.{List, [], ◌∷◌, pos}
use Rattle.mpc_exact.specs.Rational.{ℚ, int, ◌+ℚ◌, ◌*ℚ◌, neg_ℚ}
use Rattle.mpc_frac.specs.Fits.{FitsFrac, FitsSum}

-- the product of x and y, and s + x y
pub record TermFits (s x y : ℚ) : Type 0 where
  pub product : FitsFrac (x *ℚ y)
  pub sum : FitsSum s (x *ℚ y)

-- the product of x and y, and s - x y
pub record TakenFits (s x y : ℚ) : Type 0 where
  pub product : FitsFrac (x *ℚ y)
  pub difference : FitsSum s (neg_ℚ (x *ℚ y))

-- each product of two entries, and each partial sum from s on, from left to right
abbrev pub SumFits : ℚ → List ℚ → List ℚ → Type 0
SumFits s [] ys = Unit {0}
SumFits s (x ∷ xs) [] = Unit {0}
SumFits s (x ∷ xs) (y ∷ ys) = TermFits s x y × SumFits (s +ℚ x *ℚ y) xs ys

-- each product of two entries, and each partial sum from 0 on
abbrev pub DotFits : List ℚ → List ℚ → Type 0
DotFits xs ys = SumFits (int (pos 0)) xs ys

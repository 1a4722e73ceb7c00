-- Sums of products of whole numbers over one denominator each.
use Rattle.std.specs.Prelude.{◌≡◌, ℕ, ◌*◌, ℤ, List, length}
use Rattle.mpc_exact.specs.Rational.{ℚ, frac, ◌+ℚ◌}
use Rattle.mpc_space.specs.Vector.{dot}
use Rattle.mpc_linear.specs.Dot.{SumFits}
use Rattle.mpc_wholes.specs.declared.numbers.Wholes.{Wholes}
use Rattle.mpc_wholes.specs.Wholes.{IsOver}

-- the sum of a start and the products of two vectors, which fits
pub record IsSummed (start : ℚ) (xs ys : List ℚ) (sum : ℚ) : Type 0 where
  pub fits : SumFits start xs ys
  pub value : sum ≡ start +ℚ dot xs ys

-- over the product of the denominators
abbrev pub AddsDot : Wholes → Wholes → ℕ → ℤ → ℤ → Type 0
AddsDot x y count start total =
    (xs ys : List ℚ) → IsOver xs x → IsOver ys y → length xs ≡ count → length ys ≡ count → IsSummed (frac start (x.den * y.den)) xs ys (frac total (x.den * y.den))

-- Theorems of sums of products that are formed from left to right.
use Rattle.std.specs.Prelude.{◌≡◌, ℕ, ◌+◌, ◌<◌, ◌≤◌, List, length, drop}
use Rattle.mpc_exact.specs.Rational.{ℚ, ◌+ℚ◌, ◌*ℚ◌}
use Rattle.mpc_space.specs.Vector.{dot, coordinate}
use Rattle.mpc_linear.specs.Dot.{TermFits, SumFits}

-- The sum once the first k products are added to start: with the products that are left it comes to the whole, and the whole fits where
-- what is left to add fits.
pub record IsSumSoFar (start : ℚ) (xs ys : List ℚ) (k : ℕ) (sum : ℚ) : Type 0 where
  pub value : sum +ℚ dot (drop k xs) (drop k ys) ≡ start +ℚ dot xs ys
  pub ahead : SumFits sum (drop k xs) (drop k ys) → SumFits start xs ys
  pub back : SumFits start xs ys → SumFits sum (drop k xs) (drop k ys)

-- x and y are the entries in place k, from 0
pub record StandAt (xs ys : List ℚ) (k : ℕ) (x y : ℚ) : Type 0 where
  pub within_left : k < length xs
  pub within_right : k < length ys
  pub left : x ≡ coordinate xs k
  pub right : y ≡ coordinate ys k

pub record SumTheorems : Type 0 where
  -- nothing is added at first
  pub none : (start : ℚ) (xs ys : List ℚ) → IsSumSoFar start xs ys 0 start
  -- one product more, where it and the sum with it fit
  pub more : (start : ℚ) (xs ys : List ℚ) (k : ℕ) (sum x y next : ℚ) → StandAt xs ys k x y → IsSumSoFar start xs ys k sum
      → next ≡ sum +ℚ x *ℚ y → TermFits sum x y → IsSumSoFar start xs ys (k + 1) next
  -- where one of the two doesn't fit, the whole doesn't
  pub wide : (start : ℚ) (xs ys : List ℚ) (k : ℕ) (sum x y : ℚ) → StandAt xs ys k x y → IsSumSoFar start xs ys k sum
      → ¬ TermFits sum x y → ¬ SumFits start xs ys
  -- at the end of the first list the sum is the whole, and the whole fits
  pub value : (start : ℚ) (xs ys : List ℚ) (k : ℕ) (sum : ℚ) → length xs ≤ k → IsSumSoFar start xs ys k sum → sum ≡ start +ℚ dot xs ys
  pub fits : (start : ℚ) (xs ys : List ℚ) (k : ℕ) (sum : ℚ) → length xs ≤ k → IsSumSoFar start xs ys k sum → SumFits start xs ys

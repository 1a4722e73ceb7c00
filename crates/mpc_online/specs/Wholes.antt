-- Rows and points over one denominator each.
use Rattle.std.specs.Prelude.{◌≡◌, ℕ, ◌<◌, pos, List, [], length, get_or, Option, None, IfSome}
use Rattle.mpc_exact.specs.Rational.{ℚ, frac}
use Rattle.mpc_space.specs.Vector.{listed}
use Rattle.mpc_space.specs.Matrix.{RationalMatrix, height}
use Rattle.mpc_wholes.specs.declared.numbers.Wholes.{Wholes}
use Rattle.mpc_wholes.specs.Wholes.{IsOver}
use Rattle.mpc_online.specs.declared.points.Point.{Point}
use Rattle.mpc_online.specs.declared.points.Point.TheVariants.{Whole, Apart}

-- each row of a matrix over one denominator, or nothing
pub record AreRowsOver (m : RationalMatrix) (rows : List (Option Wholes)) : Type 0 where
  pub size : length rows ≡ height m
  pub at : (i : ℕ) → i < height m → IfSome (get_or rows i None) (IsOver (get_or m.rows i []))

-- the first numerators over the denominator
abbrev pub first_of : Wholes → ℕ → List ℚ
first_of w count = listed count (λ k. frac (get_or w.numerators k (pos 0)) w.den)

-- the entries of a point
abbrev pub entries_of : Point → List ℚ
entries_of (Whole w count) = first_of w count
entries_of (Apart v) = v.items

-- Sums of products that are formed one after another.
use Rattle.std.proofs.Common.{◌≡◌, ℕ, ◌+◌, ◌<◌, ◌≤◌, List, length, pos, sym, arith, subst}
use Rattle.mpc_exact.specs.Rational.{ℚ, int, ◌+ℚ◌, ◌*ℚ◌}
use Rattle.mpc_exact.proofs.RationalRing.{reads, by_ring}
use Rattle.std.proofs.Common.{[], ◌∷◌}
use Rattle.mpc_space.specs.Vector.{coordinate, dot}
use Rattle.mpc_linear.specs.Dot.{TermFits, SumFits}
use Rattle.mpc_linear.specs.SumTheorems.{SumTheorems, IsSumSoFar, StandAt}

module _ (laws : SumTheorems) (start : ℚ) (xs ys : List ℚ) (n : ℕ) (left : length xs ≡ n) (right : n ≤ length ys) where
  pub sum_begins : (sum : ℚ) → sum ≡ start → IsSumSoFar start xs ys 0 sum
  sum_begins sum e = subst (IsSumSoFar start xs ys 0) (sym e) (laws.none start xs ys)

  module _ (k : ℕ) (sum x y : ℚ) (h : k < n) (ex : x ≡ coordinate xs k) (ey : y ≡ coordinate ys k) (so : IsSumSoFar start xs ys k sum) where
    stand : StandAt xs ys k x y
    stand = record { within_left = subst (λ m. k < m) (sym left) h; within_right = omega arith; left = ex; right = ey }

    pub sum_more : (next : ℚ) → next ≡ sum +ℚ x *ℚ y → TermFits sum x y → IsSumSoFar start xs ys (k + 1) next
    sum_more next e t = laws.more start xs ys k sum x y next stand so e t

    pub sum_wide : (TermFits sum x y → ⊥) → SumFits start xs ys → ⊥
    sum_wide t = laws.wide start xs ys k sum x y stand so t

  module _ (k : ℕ) (sum : ℚ) (h : n ≤ k) (so : IsSumSoFar start xs ys k sum) where
    pub sum_value : sum ≡ start +ℚ dot xs ys
    sum_value = laws.value start xs ys k sum (subst (λ m. m ≤ k) (sym left) h) so

    pub sum_fits : SumFits start xs ys
    sum_fits = laws.fits start xs ys k sum (subst (λ m. m ≤ k) (sym left) h) so

pub from_zero : (x : ℚ) → int (pos 0) +ℚ x ≡ x
from_zero x = by_ring (x ∷ []) (search reads depth 30) (search reads depth 30) tt

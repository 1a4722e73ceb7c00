-- Pairs of fractions in lexicographic order. The pair (q, r) stands for q + d r at every small enough positive d.
use Rattle.std.specs.Prelude.{◌≡◌, Bool, ◌&&◌, ◌||◌, ◌⊎◌}
use Rattle.mpc_exact.specs.Rational.{ℚ, ◌+ℚ◌, ◌*ℚ◌, ◌≤ℚ◌, ◌<ℚ◌, le_ℚ, lt_ℚ}

pub record Pair : Type 0 where
  pub first : ℚ
  pub second : ℚ

-- a whole pair below another
pub record IsBelow (p q : Pair) : Type 0 where
  pub below : (p.first <ℚ q.first) ⊎ ((p.first ≡ q.first) × (p.second <ℚ q.second))

pub record IsAtMost (p q : Pair) : Type 0 where
  pub at_most : (p.first <ℚ q.first) ⊎ ((p.first ≡ q.first) × (p.second ≤ℚ q.second))

-- the test of `IsBelow`
unfoldable pub is_below : Pair → Pair → Bool
is_below p q = lt_ℚ p.first q.first || (le_ℚ p.first q.first && lt_ℚ p.second q.second)

abbrev pub pair_add : Pair → Pair → Pair
pair_add p q = record { first = p.first +ℚ q.first; second = p.second +ℚ q.second }

abbrev pub pair_scale : ℚ → Pair → Pair
pair_scale k p = record { first = k *ℚ p.first; second = k *ℚ p.second }

-- Where a side rests.
use Rattle.std.proofs.Common.{◌≡◌, ℕ, ◌+◌, ◌-◌, ◌<◌, ◌≤◌, false, List, ℤ, sym, ◌∙◌, ap, arith, le-ltb}
use Rattle.mpc_exact.specs.Rational.{frac}
use Rattle.mpc_rows.specs.LinearSystem.{LinearSystem, height}
use Rattle.mpc_rows.specs.Run.{rest, bound, is_unknown}
use Rattle.mpc_scaled.specs.Scaled.{whole_at, scale_at, HasSides}
use Rattle.mpc_runs.proofs.LeftSides.{bound-first}
use Rattle.mpc_runs.proofs.Read.{rest_bound}

module _ (s : LinearSystem) (y : ℕ) (h : s.width ≤ y) where
  unknown_not : is_unknown s y ≡ false
  unknown_not = le-ltb y s.width h

  pub side_is : s.width + (y - s.width) ≡ y
  side_is = omega arith

  pub rest_first : (k : List ℕ) (b : List ℤ) → HasSides s k b → y - s.width < height s → (rest s y).first ≡ frac (whole_at b (y - s.width)) (scale_at k y)
  rest_first k b w l =
      ap (λ z. z.first) (rest_bound s y unknown_not) ∙ ap (λ z. (bound s z).first) (sym side_is) ∙ bound-first s (y - s.width) ∙ w.sides (y - s.width) l
      ∙ ap (λ z. frac (whole_at b (y - s.width)) (scale_at k z)) side_is

  pub rest_second : (rest s y).second ≡ (bound s (s.width + (y - s.width))).second
  rest_second = ap (λ z. z.second) (rest_bound s y unknown_not) ∙ ap (λ z. (bound s z).second) (sym side_is)

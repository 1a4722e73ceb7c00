-- The values after a pivot where the side l leaves and e enters: each changes by its coefficient on e, times by how much the bound of l is
-- above its value, over the coefficient of l on e.
use Rattle.std.proofs.Common.{◌≡◌, ℕ, ◌∙◌, ap, le-ltb}
use Rattle.mpc_exact.specs.Rational.{◌+ℚ◌, ◌-ℚ◌, ◌*ℚ◌, inv_ℚ}
use Rattle.mpc_rows.specs.LinearSystem.{LinearSystem}
use Rattle.mpc_rows.specs.Run.{Position, IsTableau, count, rest, bound, value, pivot}
use Rattle.mpc_runs.proofs.Read.{rest_bound}
use Rattle.mpc_runs.proofs.TableauRows.{row_pivot}
use Rattle.mpc_runs.proofs.Turn.{Goes}

module _ (s : LinearSystem) (p : Position) (t : IsTableau p) (l e : ℕ) (g : Goes s p l e) where
  rests_at_bound : rest s l ≡ bound s l
  rests_at_bound = rest_bound s l (le-ltb l s.width g.leaves.violated.side)

  pub first_after : (x : ℕ) → (value s (pivot p l e) x).first ≡ (value s p x).first +ℚ p.coefficient x e *ℚ (((bound s l).first -ℚ (value s p l).first) *ℚ inv_ℚ (p.coefficient l e))
  unfolding value
  first_after x =
      row_pivot p t l e g.leaves.violated.basic g.eligible.free g.eligible.some (count s) g.leaves.below g.below (λ y. (rest s y).first) x
      ∙ ap (λ r. (value s p x).first +ℚ p.coefficient x e *ℚ ((r.first -ℚ (value s p l).first) *ℚ inv_ℚ (p.coefficient l e))) rests_at_bound

  pub second_after : (x : ℕ) → (value s (pivot p l e) x).second ≡ (value s p x).second +ℚ p.coefficient x e *ℚ (((bound s l).second -ℚ (value s p l).second) *ℚ inv_ℚ (p.coefficient l e))
  unfolding value
  second_after x =
      row_pivot p t l e g.leaves.violated.basic g.eligible.free g.eligible.some (count s) g.leaves.below g.below (λ y. (rest s y).second) x
      ∙ ap (λ r. (value s p x).second +ℚ p.coefficient x e *ℚ ((r.second -ℚ (value s p l).second) *ℚ inv_ℚ (p.coefficient l e))) rests_at_bound

-- Two right replies at one state are one.
use Rattle.std.proofs.Common.{◌≡◌, List, [], ◌∷◌, refl, sym, ◌∙◌, ap}
use mathlib.Core.HLevel.{Discrete}
use Rattle.mpc_exact.specs.Rational.{ℚ}
use Rattle.mpc_exact.proofs.RationalField.{ℚ_discrete}
use Rattle.mpc_exact.proofs.RationalOrder.{<ℚ_irrefl}
use Rattle.mpc_exact.proofs.OrderTheorems.{<ℚ_trans}
use Rattle.mpc_plant.specs.declared.plants.Plant.{Plant}
use Rattle.mpc_plant.specs.Trajectory.{IsBest, move_at}
use Rattle.mpc_plant.specs.Reply.{move, infeasible, IsRight, OneRightReply}

pub vector_discrete : Discrete (List ℚ)
vector_discrete [] [] = yes refl
vector_discrete [] (y ∷ ys) = no (λ e. cc)
vector_discrete (x ∷ xs) [] = no (λ e. cc)
vector_discrete (x ∷ xs) (y ∷ ys) = by (ℚ_discrete x y) (vector_discrete xs ys)
  where
    by : Dec (x ≡ y) → Dec (xs ≡ ys) → Dec (x ∷ xs ≡ y ∷ ys)
    by (yes p) (yes q) = yes (λ i. p i ∷ q i)
    by (yes p) (no q) = no (λ e. q (cc))
    by (no p) q = no (λ e. p (cc))

-- two best sequences with different first moves would each cost less than the other
two_best : (plant : Plant) (t : List ℚ) (v w : List (List ℚ)) → IsBest plant t v → IsBest plant t w → ¬ (move_at v 0 ≡ move_at w 0) → ⊥
two_best plant t v w b c apart =
    <ℚ_irrefl (<ℚ_trans (b.cheapest w c.sequence c.admissible (λ e. apart (ap (λ s. move_at s 0) (sym e)))) (c.cheapest v b.sequence b.admissible (λ e. apart (ap (λ s. move_at s 0) e))))

one_move : (plant : Plant) (t u w : List ℚ) → Dec (u ≡ w) → IsRight plant t (move u) → IsRight plant t (move w) → move u ≡ move w
one_move plant t u w (yes e) h k = ap move e
one_move plant t u w (no apart) h k = absurd (two_best plant t h.0 k.0 h.1 k.1 (λ e. apart (sym h.2 ∙ e ∙ k.2)))

pub one_right : OneRightReply
one_right plant t (move u) (move w) h k = one_move plant t u w (vector_discrete u w) h k
one_right plant t (move u) infeasible h k = absurd (k h.0 h.1.sequence h.1.admissible)
one_right plant t infeasible (move w) h k = absurd (h k.0 k.1.sequence k.1.admissible)
one_right plant t infeasible infeasible h k = refl

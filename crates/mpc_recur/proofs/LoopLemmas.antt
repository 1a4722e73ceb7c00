-- The closed loop of a safe controller.
use Rattle.std.proofs.Common.{◌≡◌, ◌≢◌, ℕ, zero, suc, ◌+◌, List, [], ◌∷◌, length, pos, refl, sym, ◌∙◌, ap, subst, arith}
use Rattle.std.specs.List.{AllByRecursion}
use Rattle.std.proofs.lemmas.List.Elements.{recursion_from_All}
use Rattle.mpc_exact.specs.Rational.{ℚ, int, ◌+ℚ◌, ◌-ℚ◌, ◌*ℚ◌, ◌/ℚ◌, ◌<ℚ◌}
use Rattle.mpc_exact.proofs.RationalRing.{reads, by_ring}
use Rattle.mpc_exact.proofs.OrderTheorems.{*ℚ-/ℚ}
use Rattle.mpc_exact.proofs.RationalOrder.{<ℚ_irrefl}
use Rattle.mpc_plant.specs.declared.lists.Coordinate.{Coordinate}
use Rattle.mpc_plant.specs.declared.plants.Plant.{Plant}
use Rattle.mpc_plant.specs.Limits.{IsCoordinate}
use Rattle.mpc_plant.specs.Trajectory.{values_at, state_of}
use Rattle.mpc_controller.specs.Parts.{Parts}
use Rattle.mpc_recur.specs.Successors.{successor, steps_from_low, next, HasMove, IsSafe}
use Rattle.mpc_recur.specs.ClosedLoop.{ComesTo, begins, moves, GoesOn, SafeGoesOn}
use Rattle.mpc_recur.proofs.FormLemmas.{successor_size}

pub step_not_zero : (axis : Coordinate) → IsCoordinate axis → axis.step ≢ int (pos 0)
step_not_zero axis is e = <ℚ_irrefl (subst (λ z. int (pos 0) <ℚ z) e is.step_positive)

-- the state of a state's point is that state
state_back : (grid : List Coordinate) (x : List ℚ) → AllByRecursion IsCoordinate grid → length x ≡ length grid → values_at grid (steps_from_low grid x) ≡ x
state_back [] [] h e = refl
state_back [] (y ∷ x) h e = absurd (omega arith)
state_back (axis ∷ grid) [] h e = absurd (omega arith)
state_back (axis ∷ grid) (y ∷ x) h e =
    let first : axis.low +ℚ axis.step *ℚ ((y -ℚ axis.low) /ℚ axis.step) ≡ y = ap (λ d. axis.low +ℚ d) (*ℚ-/ℚ (y -ℚ axis.low) axis.step (step_not_zero axis h.0)) ∙ back axis.low y in
    let rest : values_at grid (steps_from_low grid x) ≡ x = state_back grid x h.1 (omega arith) in
    λ i. first i ∷ rest i
  where
    back : (l y : ℚ) → l +ℚ (y -ℚ l) ≡ y
    back l y = by_ring (l ∷ y ∷ []) (search reads depth 30) (search reads depth 30) tt

state_of_next : (plant : Plant) (t u : List ℚ) → state_of plant (next plant t u) ≡ successor plant (state_of plant t) u
state_of_next plant t u =
    state_back plant.grid (successor plant (state_of plant t) u) (recursion_from_All IsCoordinate plant.grid plant.is_plant.grid_ok) (successor_size plant (state_of plant t) u ∙ sym plant.is_plant.grid_size)

module _ (parts : Parts) (safe : IsSafe parts) (start : List ℚ) (has : HasMove parts start) where
  goes_on : (k : ℕ) (x : List ℚ) → ComesTo parts start k x → GoesOn parts x
  goes_on _ _ begins = record { point = start; is_state = refl; has_move = has }
  goes_on _ _ (moves k x t u before at replies) = record {
    point = next parts.plant t u;
    is_state = ap (λ y. successor parts.plant y u) at.is_state ∙ sym (state_of_next parts.plant t u);
    has_move = safe.stays t u at.in_box replies;
  }

  comes : (k : ℕ) → (x : List ℚ) × ComesTo parts start k x
  comes zero = (state_of parts.plant start, begins)
  comes (suc k) =
      let before = comes k in
      let here = goes_on k before.0 before.1 in
      let one : k + 1 ≡ suc k = omega arith in (
        successor parts.plant before.0 here.has_move.u,
        subst (λ n. ComesTo parts start n (successor parts.plant before.0 here.has_move.u)) one
            (moves k before.0 here.point here.has_move.u before.1 (record { in_box = here.has_move.in_box; is_state = here.is_state }) here.has_move.replies),
      )

pub safe_goes_on : SafeGoesOn
safe_goes_on parts is safe start has = record { comes = comes parts safe start has; goes_on = goes_on parts safe start has }

-- The cost of a motion, step by step.
use Rattle.std.proofs.Common.{◌≡◌, ℕ, ◌+◌, ◌<◌, List, pos, refl, sym, ◌∙◌, ap, subst, subst₂, arith, add-one, Result, Ok, Err, IfOk, MatchResult}
use Rattle.mpc_exact.specs.Rational.{ℚ, int, ◌+ℚ◌}
use Rattle.mpc_exact.proofs.Rational.{+ℚ_assoc}
use Rattle.mpc_space.specs.Vector.{vec_sub, quadratic}
use Rattle.mpc_space.proofs.Total.{total-zero, total-suc}
use Rattle.mpc_linear.specs.declared.errors.LinearError.{LinearError}
use Rattle.mpc_linear.specs.Answers.{IfWide}
use Rattle.mpc_plant.specs.declared.plants.Plant.{Plant}
use Rattle.mpc_plant.specs.Trajectory.{move_at, state_of, state_at, stage_cost, cost}
use Rattle.mpc_plant.specs.RollWidth.{AxesFit, next_of, NextFits, StateFits}
use Rattle.mpc_plant.specs.CostWidth.{TargetFits, StageFits, StepFits, StepsFit, IsFirstWideStep, cost_below}
use Rattle.mpc_plant.proofs.Carried.{IfWide-weaker, below_next}

-- the state at step k, and the cost of the steps below k
pub record CostedTo (plant : Plant) (t : List ℚ) (v : List (List ℚ)) (k : ℕ) (x : List ℚ) (sum : ℚ) : Type 0 where
  pub here : x ≡ state_at plant t v k
  pub below : sum ≡ cost_below plant t v k
  pub state : StateFits plant t v k
  pub before : (j : ℕ) → j < k → StepFits plant t v j

module _ (plant : Plant) (t : List ℚ) (v : List (List ℚ)) where
  pub start_wide : (step : ℕ) → step ≡ 0 → ¬ AxesFit plant.grid t → IsFirstWideStep plant t v step
  start_wide step is not = subst (IsFirstWideStep plant t v) (sym is) (record { within = omega arith; before = λ j h. absurd (omega arith); fails = λ h. not h.state })

  pub costed_none : (x : List ℚ) (sum : ℚ) → x ≡ state_of plant t → AxesFit plant.grid t → sum ≡ int (pos 0) → CostedTo plant t v 0 x sum
  costed_none x sum e fits nothing = record {
    here = e;
    below = nothing ∙ sym (total-zero (λ j. stage_cost plant (state_at plant t v j) (move_at v j)));
    state = fits;
    before = λ j h. absurd (omega arith);
  }

  -- the state w, as the code reads it, and the move u at step k
  module _ (k : ℕ) (l : k < plant.horizon) (x : List ℚ) (sum : ℚ) (c : CostedTo plant t v k x sum) (w u : List ℚ) (same : w ≡ x) (move : u ≡ move_at v k) where
    stage_fits : StageFits plant sum w u → StepFits plant t v k
    stage_fits h = record {
      state = c.state;
      stage = λ _. subst₂ (StageFits plant (cost_below plant t v k)) (same ∙ c.here) move (subst (λ s. StageFits plant s w u) c.below h);
      end = λ e. absurd (omega arith);
    }

    pub stage_wide : (step : ℕ) → step ≡ k → ¬ StageFits plant sum w u → IsFirstWideStep plant t v step
    stage_wide step is not = subst (IsFirstWideStep plant t v) (sym is) (record {
      within = omega arith;
      before = c.before;
      fails = λ h. not (subst (λ s. StageFits plant s w u) (sym c.below) (subst₂ (StageFits plant (cost_below plant t v k)) (sym (same ∙ c.here)) (sym move) (h.stage l)));
    })

    pub next_wide : StageFits plant sum w u → (step : ℕ) → step ≡ k + 1 → ¬ NextFits plant w u → IsFirstWideStep plant t v step
    next_wide fits step is not = subst (IsFirstWideStep plant t v) (sym is) (record {
      within = omega arith;
      before = below_next (StepFits plant t v) k c.before (stage_fits fits);
      fails = λ h. not (subst₂ (NextFits plant) (sym (same ∙ c.here)) (sym move) (subst (StateFits plant t v) (add-one k) h.state));
    })

    pub costed_more : (y : List ℚ) (next : ℚ) → StageFits plant sum w u → next ≡ (sum +ℚ quadratic plant.q.rows (vec_sub w plant.xgoal)) +ℚ quadratic plant.r.rows (vec_sub u plant.ugoal) → NextFits plant w u → y ≡ next_of plant w u
        → CostedTo plant t v (k + 1) y next
    costed_more y next fits added next_fits f = record {
      here = f ∙ (λ j. next_of plant ((same ∙ c.here) j) (move j)) ∙ sym (ap (state_at plant t v) (add-one k));
      below =
          added ∙ +ℚ_assoc sum (quadratic plant.q.rows (vec_sub w plant.xgoal)) (quadratic plant.r.rows (vec_sub u plant.ugoal)) ∙ (λ j. c.below j +ℚ stage_cost plant ((same ∙ c.here) j) (move j))
          ∙ sym (ap (cost_below plant t v) (add-one k) ∙ total-suc k (λ j. stage_cost plant (state_at plant t v j) (move_at v j)));
      state = subst (StateFits plant t v) (sym (add-one k)) (subst₂ (NextFits plant) (same ∙ c.here) move next_fits);
      before = below_next (StepFits plant t v) k c.before (stage_fits fits);
    }

  -- the end
  module _ (k : ℕ) (e : k ≡ plant.horizon) (x : List ℚ) (sum : ℚ) (c : CostedTo plant t v k x sum) (w : List ℚ) (same : w ≡ x) where
    at_end : CostedTo plant t v plant.horizon w sum
    at_end = subst₂ (λ n y. CostedTo plant t v n y sum) e (sym same) c

    pub cost_is : (all : ℚ) → all ≡ sum +ℚ quadratic plant.last.rows (vec_sub w plant.xgoal) → all ≡ cost plant t v
    cost_is all f = f ∙ (λ j. at_end.below j +ℚ quadratic plant.last.rows (vec_sub (at_end.here j) plant.xgoal))

    pub steps_fit : TargetFits sum plant.last w plant.xgoal → StepsFit plant t v
    steps_fit h j l = below_next (StepFits plant t v) plant.horizon at_end.before (record {
      state = at_end.state;
      stage = λ less. absurd (omega arith);
      end = λ _. subst₂ (λ s y. TargetFits s plant.last y plant.xgoal) at_end.below at_end.here h;
    }) j (omega arith)

    pub end_wide : (step : ℕ) → step ≡ plant.horizon → ¬ TargetFits sum plant.last w plant.xgoal → IsFirstWideStep plant t v step
    end_wide step is not = subst (IsFirstWideStep plant t v) (sym is) (record {
      within = omega arith;
      before = at_end.before;
      fails = λ h. not (subst₂ (λ s y. TargetFits s plant.last y plant.xgoal) (sym at_end.below) (sym at_end.here) (h.end refl));
    })

    pub end_answer : (r : Result ℚ LinearError) → MatchResult r (λ _. TargetFits sum plant.last w plant.xgoal) (λ e. IfWide e (λ step. (step ≡ plant.horizon) × (¬ TargetFits sum plant.last w plant.xgoal))) → MatchResult r (λ _. StepsFit plant t v) (λ e. IfWide e (IsFirstWideStep plant t v))
    end_answer (Ok all) h = steps_fit h
    end_answer (Err error) h = IfWide-weaker error _ _ (λ step p. end_wide step p.0 p.1) h

    pub end_value : (r : Result ℚ LinearError) → IfOk r (λ all. all ≡ sum +ℚ quadratic plant.last.rows (vec_sub w plant.xgoal)) → IfOk r (λ all. all ≡ cost plant t v)
    end_value (Ok all) h = cost_is all h
    end_value (Err error) h = h

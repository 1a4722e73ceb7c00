use Rattle.std.proofs.Common.{◌≡◌, ◌∙◌, ℕ, List, sym, ap, length, arith}
use Rattle.std.proofs.lemmas.Result.{err_from_is_err_and}
use Rattle.mpc_plant.proofs.Carried.{IfWide-weaker}
use Rattle.mpc_exact.specs.Rational.{ℚ}
use Rattle.mpc_plant.specs.declared.plants.Plant.{Plant}
use Rattle.mpc_plant.specs.Trajectory.{IsInBox, point_of, state_at}
use Rattle.mpc_plant.specs.CostWidth.{IsFirstWideStep}
use Rattle.mpc_plant.proofs.RollLemmas.{state_size}
use Rattle.mpc_plant.proofs.CostedSteps.{costed_none, costed_more, next_wide, end_answer, end_value}
use Rattle.mpc_plant.proofs.costs.cost.Goals as goal

pub loop-step-init : goal.loop-step-init
loop-step-init c = costed_none c.args.plant.now (point_of c.args.counts.now) c.args.moves.now.rows c.in_ok-state.state c.whole-sum.result c.in_ok-state.ensures.value c.in_ok-state.ensures.wide c.whole-sum.ensures

pub add_stage-requires-clause-state : goal.add_stage-requires-clause-state
add_stage-requires-clause-state c =
    ap length (c.as_slice-current.ensures ∙ c.loop-step.invariant.here) ∙ state_size c.args.plant.now (point_of c.args.counts.now) c.args.moves.now.rows c.loop-step.step c.requires.inside

pub next_state-requires-clause-state : goal.next_state-requires-clause-state
next_state-requires-clause-state c =
    ap length (c.as_slice-current.ensures ∙ c.loop-step.invariant.here) ∙ state_size c.args.plant.now (point_of c.args.counts.now) c.args.moves.now.rows c.loop-step.step c.requires.inside

pub returns-in_err-state-2-clause-wide : goal.returns-in_err-state-2-clause-wide
returns-in_err-state-2-clause-wide c =
    let p = err_from_is_err_and c.from_residual-in_err-state-2.result c.from_residual-in_err-state-2.ensures.1 in
    rw (p.1, p.2) (IfWide-weaker _ _ (IsFirstWideStep c.args.plant.now (point_of c.args.counts.now) c.args.moves.now.rows)
    (λ step h. next_wide c.args.plant.now (point_of c.args.counts.now) c.args.moves.now.rows c.loop-step.step c.loop-step-test.true c.loop-step.state c.loop-step.sum c.loop-step.invariant c.as_slice-current.result.now c.row-input.result.now c.as_slice-current.ensures c.row-input.ensures
    c.in_ok-sum.ensures.wide step h.0 h.1)
    c.in_err-state-2.ensures.wide)

pub loop-step-preserved : goal.loop-step-preserved
loop-step-preserved c =
    costed_more c.args.plant.now (point_of c.args.counts.now) c.args.moves.now.rows c.loop-step.step c.loop-step-test.true c.loop-step.state c.loop-step.sum c.loop-step.invariant c.as_slice-current.result.now c.row-input.result.now c.as_slice-current.ensures c.row-input.ensures
    c.in_ok-state-2.state c.in_ok-sum.sum c.in_ok-sum.ensures.wide c.in_ok-sum.ensures.value c.in_ok-state-2.ensures.wide c.in_ok-state-2.ensures.value

end_sized : (plant : Plant) (t : List ℚ) (v : List (List ℚ)) (k : ℕ) (x w : List ℚ) → IsInBox plant t → x ≡ state_at plant t v k → w ≡ x → length w ≡ plant.n
end_sized plant t v k x w inside here same = ap length (same ∙ here) ∙ state_size plant t v k inside

pub add_target-requires-clause-goal : goal.add_target-requires-clause-goal
add_target-requires-clause-goal c =
    end_sized c.args.plant.now (point_of c.args.counts.now) c.args.moves.now.rows c.loop-step.step c.loop-step.state c.as_slice-end.result.now c.requires.inside c.loop-step.invariant.here c.as_slice-end.ensures ∙ sym c.args.plant.now.is_plant.xgoal_size

pub add_target-requires-clause-columns : goal.add_target-requires-clause-columns
add_target-requires-clause-columns c =
    end_sized c.args.plant.now (point_of c.args.counts.now) c.args.moves.now.rows c.loop-step.step c.loop-step.state c.as_slice-end.result.now c.requires.inside c.loop-step.invariant.here c.as_slice-end.ensures ∙ sym c.args.plant.now.is_plant.last_weight.shape.columns_are

pub add_target-requires-clause-rows : goal.add_target-requires-clause-rows
add_target-requires-clause-rows c =
    end_sized c.args.plant.now (point_of c.args.counts.now) c.args.moves.now.rows c.loop-step.step c.loop-step.state c.as_slice-end.result.now c.requires.inside c.loop-step.invariant.here c.as_slice-end.ensures ∙ sym c.args.plant.now.is_plant.last_weight.shape.rows_are

pub returns-clause-value : goal.returns-clause-value
returns-clause-value c =
    let all : c.loop-step.step ≡ c.args.plant.now.horizon = omega arith in
    end_value c.args.plant.now (point_of c.args.counts.now) c.args.moves.now.rows c.loop-step.step all c.loop-step.state c.loop-step.sum c.loop-step.invariant c.as_slice-end.result.now c.as_slice-end.ensures c.add_target.result c.add_target.ensures.value

pub returns-clause-wide : goal.returns-clause-wide
returns-clause-wide c =
    let all : c.loop-step.step ≡ c.args.plant.now.horizon = omega arith in
    end_answer c.args.plant.now (point_of c.args.counts.now) c.args.moves.now.rows c.loop-step.step all c.loop-step.state c.loop-step.sum c.loop-step.invariant c.as_slice-end.result.now c.as_slice-end.ensures c.add_target.result c.add_target.ensures.wide

use Rattle.std.proofs.Common.{refl, ◌≡◌, List, sym, ◌∙◌, ap, subst, arith}
use Rattle.mpc_exact.specs.Rational.{ℚ}
use Rattle.mpc_space.specs.Vector.{mat_vec}
use Rattle.mpc_rows.specs.ActiveSets.{extended}
use Rattle.mpc_online.specs.StateRows.{point_of}
use Rattle.mpc_online.specs.Positions.{goes_to}
use Rattle.mpc_online.specs.Widths.{ProductsFit, FirstFits, StepFits}
use Rattle.mpc_online.specs.OnlineRun.{IsStep, IsOpening}
use Rattle.mpc_online.specs.Answers.{IfStopWide, position_of, step_of}
use Rattle.mpc_online.specs.declared.run.Next.{Next}
use Rattle.mpc_online.specs.declared.solutions.Stop.{Stop}
use Rattle.mpc_online.proofs.Travel.{few_steps}
use Rattle.mpc_online.proofs.RunEnds.{length-extended, length-sides, wide_sides, wide_open, open_ends, open_ahead, open_answers, open_travels, steps_wide, steps_end, steps_ahead, steps_answer, steps_travel}
use Rattle.mpc_online.specs.Evens.{sides_of}
use Rattle.mpc_online.proofs.run.answer.Goals as goal

-- ---- the opening
pub right_sides-requires-clause-size : goal.right_sides-requires-clause-size
right_sides-requires-clause-size c =
    c.args.qp.now.is_program.w_shape.columns_are
    ∙ sym (length-extended c.args.qp.now c.args.counts.now c.deref.result.now c.requires.in_box (c.deref.ensures.value ∙ c.in-Ok.ensures))

pub open-requires-clause-extended : goal.open-requires-clause-extended
open-requires-clause-extended c = record { counts = c.args.counts.now; in_box = c.requires.in_box; is = c.deref-2.ensures.value ∙ c.in-Ok.ensures }

pub open-requires-clause-sides : goal.open-requires-clause-sides
open-requires-clause-sides c =
    length-sides c.args.qp.now (point_of c.args.counts.now) c.deref-2.result.now (sides_of c.in-Ok-right_sides.found) (c.deref-2.ensures.value ∙ c.in-Ok.ensures) (c.in-Ok-right_sides.ensures.value ∙ ap (mat_vec c.args.qp.now.w.rows) (c.deref.ensures.value ∙ sym c.deref-2.ensures.value))

pub returns-in-Err-Wide-clause-wide : goal.returns-in-Err-Wide-clause-wide
returns-in-Err-Wide-clause-wide c =
    wide_sides c.args.qp.now (point_of c.args.counts.now) c.deref.result.now (c.deref.ensures.value ∙ c.in-Ok.ensures)
    (subst (λ (s : Stop). IfStopWide s (¬ ProductsFit c.args.qp.now.w c.deref.result.now)) c.in-Err-Wide.field-0-is c.in-Err-Wide.ensures.wide)

pub returns-in-Err-Wide-open-clause-wide : goal.returns-in-Err-Wide-open-clause-wide
returns-in-Err-Wide-open-clause-wide c =
    wide_open c.args.qp.now (point_of c.args.counts.now) c.deref-2.result.now (sides_of c.in-Ok-right_sides.found) (c.deref-2.ensures.value ∙ c.in-Ok.ensures) (c.in-Ok-right_sides.ensures.value ∙ ap (mat_vec c.args.qp.now.w.rows) (c.deref.ensures.value ∙ sym c.deref-2.ensures.value))
    (subst (λ (s : Stop). IfStopWide s (¬ FirstFits c.args.qp.now (sides_of c.in-Ok-right_sides.found) c.deref-2.result.now)) c.in-Err-Wide-open.field-0-is c.in-Err-Wide-open.ensures.wide)

pub returns-in-Ok-Ends-clause-answer : goal.returns-in-Ok-Ends-clause-answer
returns-in-Ok-Ends-clause-answer c =
    open_answers c.args.qp.now (point_of c.args.counts.now) c.deref-2.result.now (sides_of c.in-Ok-right_sides.found) (c.deref-2.ensures.value ∙ c.in-Ok.ensures) (c.in-Ok-right_sides.ensures.value ∙ ap (mat_vec c.args.qp.now.w.rows) (c.deref.ensures.value ∙ sym c.deref-2.ensures.value)) c.requires.definite c.requires.symmetric c.in-Ok-Ends.online
    (subst (λ (n : Next). IsOpening c.args.qp.now (sides_of c.in-Ok-right_sides.found) c.deref-2.result.now (step_of n)) c.in-Ok-Ends.field-0-is c.in-Ok-Ends.ensures.opens)

pub returns-in-Ok-Ends-clause-end : goal.returns-in-Ok-Ends-clause-end
returns-in-Ok-Ends-clause-end c =
    open_ends c.args.qp.now (point_of c.args.counts.now) c.deref-2.result.now (sides_of c.in-Ok-right_sides.found) (c.deref-2.ensures.value ∙ c.in-Ok.ensures) (c.in-Ok-right_sides.ensures.value ∙ ap (mat_vec c.args.qp.now.w.rows) (c.deref.ensures.value ∙ sym c.deref-2.ensures.value)) (subst (λ (x : List ℚ). ProductsFit c.args.qp.now.w x) (c.deref.ensures.value ∙ sym c.deref-2.ensures.value) c.in-Ok-right_sides.ensures.wide) c.in-Ok-Ends.ensures.wide c.in-Ok-Ends.online
    (subst (λ (n : Next). IsOpening c.args.qp.now (sides_of c.in-Ok-right_sides.found) c.deref-2.result.now (step_of n)) c.in-Ok-Ends.field-0-is c.in-Ok-Ends.ensures.opens)

pub steps-init : goal.steps-init
steps-init c =
    let opens : IsOpening c.args.qp.now (sides_of c.in-Ok-right_sides.found) c.deref-2.result.now (goes_to (position_of c.in-Ok-Goes.it)) =
    subst (λ (n : Next). IsOpening c.args.qp.now (sides_of c.in-Ok-right_sides.found) c.deref-2.result.now (step_of n)) c.in-Ok-Goes.field-0-is c.in-Ok-Goes.ensures.opens in
    record {
      travelled = open_travels c.args.qp.now (point_of c.args.counts.now) c.deref-2.result.now (sides_of c.in-Ok-right_sides.found) (c.deref-2.ensures.value ∙ c.in-Ok.ensures) (c.in-Ok-right_sides.ensures.value ∙ ap (mat_vec c.args.qp.now.w.rows) (c.deref.ensures.value ∙ sym c.deref-2.ensures.value)) c.requires.definite c.requires.symmetric (position_of c.in-Ok-Goes.it) opens;
      ahead = open_ahead c.args.qp.now (point_of c.args.counts.now) c.deref-2.result.now (sides_of c.in-Ok-right_sides.found) (c.deref-2.ensures.value ∙ c.in-Ok.ensures) (c.in-Ok-right_sides.ensures.value ∙ ap (mat_vec c.args.qp.now.w.rows) (c.deref.ensures.value ∙ sym c.deref-2.ensures.value)) (subst (λ (x : List ℚ). ProductsFit c.args.qp.now.w x) (c.deref.ensures.value ∙ sym c.deref-2.ensures.value) c.in-Ok-right_sides.ensures.wide) c.in-Ok-Goes.ensures.wide (position_of c.in-Ok-Goes.it) opens;
      sides = c.in-Ok-right_sides.ensures.value ∙ ap (mat_vec c.args.qp.now.w.rows) (c.deref.ensures.value ∙ c.in-Ok.ensures);
      prepared = c.requires.prepared;
    }

-- ---- the steps
abbrev left : (x y : List ℚ) → x ≡ y → List ℚ
left x y e = x

pub advance-requires-clause-position : goal.advance-requires-clause-position
advance-requires-clause-position c = c.steps.invariant.travelled.on_way.is_position

pub advance-requires-clause-sides : goal.advance-requires-clause-sides
advance-requires-clause-sides c =
    length-sides c.args.qp.now (point_of c.args.counts.now) (extended (point_of c.args.counts.now)) (left _ _ c.steps.invariant.sides) refl c.steps.invariant.sides

pub returns-in-Err-Wide-advance-clause-wide : goal.returns-in-Err-Wide-advance-clause-wide
returns-in-Err-Wide-advance-clause-wide c =
    steps_wide c.args.qp.now (point_of c.args.counts.now) (extended (point_of c.args.counts.now)) (left _ _ c.steps.invariant.sides) refl c.steps.invariant.sides c.steps.step (position_of c.steps.it) c.steps.invariant.ahead
    (subst (λ (s : Stop). IfStopWide s (¬ StepFits c.args.qp.now (left _ _ c.steps.invariant.sides) (position_of c.steps.it))) c.in-Err-Wide-advance.field-0-is c.in-Err-Wide-advance.ensures.wide)

pub returns-in-Ok-Ends-advance-clause-answer : goal.returns-in-Ok-Ends-advance-clause-answer
returns-in-Ok-Ends-advance-clause-answer c =
    steps_answer c.args.qp.now (point_of c.args.counts.now) (extended (point_of c.args.counts.now)) (left _ _ c.steps.invariant.sides) refl c.steps.invariant.sides c.requires.definite c.requires.symmetric (position_of c.steps.it) c.steps.step c.steps.invariant.travelled c.in-Ok-Ends-advance.online
    (subst (λ (n : Next). IsStep c.args.qp.now (left _ _ c.steps.invariant.sides) (position_of c.steps.it) (step_of n)) c.in-Ok-Ends-advance.field-0-is c.in-Ok-Ends-advance.ensures.steps)

pub returns-in-Ok-Ends-advance-clause-end : goal.returns-in-Ok-Ends-advance-clause-end
returns-in-Ok-Ends-advance-clause-end c =
    steps_end c.args.qp.now (point_of c.args.counts.now) (extended (point_of c.args.counts.now)) (left _ _ c.steps.invariant.sides) refl c.steps.invariant.sides c.steps.step (position_of c.steps.it) c.steps.invariant.ahead c.in-Ok-Ends-advance.ensures.wide c.in-Ok-Ends-advance.online
    (subst (λ (n : Next). IsStep c.args.qp.now (left _ _ c.steps.invariant.sides) (position_of c.steps.it) (step_of n)) c.in-Ok-Ends-advance.field-0-is c.in-Ok-Ends-advance.ensures.steps)

pub overflow_add-step : goal.overflow_add-step
overflow_add-step c = let h = few_steps c.args.qp.now (point_of c.args.counts.now) c.requires.definite c.requires.symmetric (position_of c.steps.it) c.steps.step c.steps.invariant.travelled c.set_theorems.ensures.few c.count_theorems.ensures in omega (arith, h)

pub steps-smaller : goal.steps-smaller
steps-smaller c = let h = few_steps c.args.qp.now (point_of c.args.counts.now) c.requires.definite c.requires.symmetric (position_of c.steps.it) c.steps.step c.steps.invariant.travelled c.set_theorems.ensures.few c.count_theorems.ensures in omega (arith, h)

pub steps-preserved : goal.steps-preserved
steps-preserved c =
    let step =
    subst (λ (n : Next). IsStep c.args.qp.now (left _ _ c.steps.invariant.sides) (position_of c.steps.it) (step_of n)) c.in-Ok-Goes-advance.field-0-is c.in-Ok-Goes-advance.ensures.steps in
    record {
      travelled = steps_travel c.args.qp.now (point_of c.args.counts.now) (extended (point_of c.args.counts.now)) (left _ _ c.steps.invariant.sides) refl c.steps.invariant.sides c.requires.definite c.requires.symmetric (position_of c.steps.it) c.steps.step c.steps.invariant.travelled (position_of c.in-Ok-Goes-advance.next) step;
      ahead = steps_ahead c.args.qp.now (point_of c.args.counts.now) (extended (point_of c.args.counts.now)) (left _ _ c.steps.invariant.sides) refl c.steps.invariant.sides c.steps.step (position_of c.steps.it) c.steps.invariant.ahead c.in-Ok-Goes-advance.ensures.wide (position_of c.in-Ok-Goes-advance.next) step;
      sides = c.steps.invariant.sides;
      prepared = c.in-Ok-Goes-advance.ensures.prepared;
    }

use Rattle.std.proofs.Common.{refl, arith}
use Rattle.std.proofs.lemmas.Result.{IfOk-weaker}
use Rattle.mpc_online.specs.Positions.{right_matrix, step_side}
use Rattle.mpc_online.specs.Widths.{TurnFits, StepFits}
use Rattle.mpc_online.specs.OnlineRun.{IsStep, LeadsTo}
use Rattle.mpc_online.specs.Shared.{IsDirectionOf}
use Rattle.mpc_online.specs.Answers.{position_of, step_of}
use Rattle.mpc_online.proofs.Solved.{IsDirection}
use Rattle.mpc_online.proofs.Advance.{slope_not_zero, is_direction, wide_elimination, wide_lengths, wide_turn, step_fits, step_is, stop_as, err_wide}
use Rattle.mpc_online.proofs.Keeping.{kept_within, found_there, wide_there}
use Rattle.mpc_online.specs.Evens.{sides_of}
use Rattle.mpc_online.proofs.run.advance.Goals as goal
use Rattle.mpc_online.proofs.run.advance.Goals.{In-Some}

-- ---- the direction that is kept
found : (c : In-Some) → IsDirectionOf c.args.qp.now c.args.it.set c.args.it.row c.in-Some.direction
found c = found_there c.args.qp.now c.direction_place.new.prepared.directions.items c.args.it.set c.args.it.row c.in_ok-place.place c.index.result.now c.in-Some.direction c.in_ok-place.ensures.prepared.directions c.in_ok-place.ensures.place c.index.ensures c.in-Some.is

dir : (c : In-Some) → IsDirection c.args.qp.now c.args.it.set c.args.it.row c.in-Some.direction.point.items c.in-Some.direction.multipliers.items
dir c = is_direction c.args.qp.now (sides_of c.args.sides.now) (position_of c.args.it) (right_matrix c.args.qp.now c.args.it.set (step_side c.args.qp.now c.args.it.row)) refl (found c).solution (found c).solves c.in-Some.direction.point.items c.in-Some.direction.multipliers.items (found c).point_is (found c).multipliers_are

pub index-requires : goal.index-requires
index-requires c =
    let h = kept_within c.args.it.set c.args.it.row c.direction_place.new.prepared.directions.items c.in_ok-place.place c.in_ok-place.ensures.place in
    let counted = c.direction_place.new.prepared.directions.ok in
    omega (arith, h, counted)

pub returns-in_default-clause-wide : goal.returns-in_default-clause-wide
returns-in_default-clause-wide c =
    wide_elimination c.args.qp.now (sides_of c.args.sides.now) (position_of c.args.it) (right_matrix c.args.qp.now c.args.it.set (step_side c.args.qp.now c.args.it.row)) refl
    (wide_there c.args.qp.now c.direction_place.new.prepared.directions.items c.args.it.set c.args.it.row c.in_ok-place.place c.index.result.now c.in_ok-place.ensures.prepared.directions c.in_ok-place.ensures.place c.index.ensures c.in_default.is)

-- ---- the turn
pub turn_of-requires-clause-direction : goal.turn_of-requires-clause-direction
turn_of-requires-clause-direction c = (dir (goal.at.turn_of-requires-clause-direction c).In-Some).size

pub turn_of-requires-clause-slope_is : goal.turn_of-requires-clause-slope_is
turn_of-requires-clause-slope_is c = (found (goal.at.turn_of-requires-clause-slope_is c).In-Some).slope_is

pub turn_of-requires-clause-multipliers : goal.turn_of-requires-clause-multipliers
turn_of-requires-clause-multipliers c = (dir (goal.at.turn_of-requires-clause-multipliers c).In-Some).one_each

pub turn_of-requires-clause-slope : goal.turn_of-requires-clause-slope
turn_of-requires-clause-slope c =
    slope_not_zero c.args.qp.now c.requires.definite c.args.it.set c.args.it.row c.in-Some.direction.point.items c.in-Some.direction.multipliers.items
    (dir (goal.at.turn_of-requires-clause-slope c).In-Some)

pub returns-in_err-turn-clause-wide : goal.returns-in_err-turn-clause-wide
returns-in_err-turn-clause-wide c =
    let f = found (goal.at.returns-in_err-turn-clause-wide c).In-Some in
    err_wide c.from_residual-in_err-turn.result _ _ c.from_residual-in_err-turn.ensures.1
    (wide_lengths c.args.qp.now (sides_of c.args.sides.now) (position_of c.args.it) (right_matrix c.args.qp.now c.args.it.set (step_side c.args.qp.now c.args.it.row)) refl f.solution f.solves c.in-Some.direction.point.items c.in-Some.direction.multipliers.items
    f.point_is f.multipliers_are c.in_err-turn.ensures.wide)

-- ---- what it leads to
pub take_turn-requires-clause-direction : goal.take_turn-requires-clause-direction
take_turn-requires-clause-direction c = (dir (goal.at.take_turn-requires-clause-direction c).In-Some).size

pub take_turn-requires-clause-multipliers : goal.take_turn-requires-clause-multipliers
take_turn-requires-clause-multipliers c = (dir (goal.at.take_turn-requires-clause-multipliers c).In-Some).one_each

pub returns-clause-steps : goal.returns-clause-steps
returns-clause-steps c =
    let f = found (goal.at.returns-clause-steps c).In-Some in
    IfOk-weaker c.take_turn.result
    (λ n. LeadsTo c.args.qp.now (sides_of c.args.sides.now) (position_of c.args.it) c.in-Some.direction.point.items c.in-Some.direction.multipliers.items c.in_ok-turn.turn (step_of n))
    (λ n. IsStep c.args.qp.now (sides_of c.args.sides.now) (position_of c.args.it) (step_of n))
    (λ n h. step_is c.args.qp.now (sides_of c.args.sides.now) (position_of c.args.it) (right_matrix c.args.qp.now c.args.it.set (step_side c.args.qp.now c.args.it.row)) refl f.solution f.solves c.in-Some.direction.point.items c.in-Some.direction.multipliers.items
    f.point_is f.multipliers_are c.in_ok-turn.turn c.in_ok-turn.ensures.value (step_of n) h)
    c.take_turn.ensures.leads

pub returns-clause-wide : goal.returns-clause-wide
returns-clause-wide c =
    let f = found (goal.at.returns-clause-wide c).In-Some in
    stop_as c.take_turn.result
    (TurnFits c.args.qp.now (sides_of c.args.sides.now) (position_of c.args.it) c.in-Some.direction.point.items c.in-Some.direction.multipliers.items c.in_ok-turn.turn)
    (StepFits c.args.qp.now (sides_of c.args.sides.now) (position_of c.args.it))
    (step_fits c.args.qp.now (sides_of c.args.sides.now) (position_of c.args.it) (right_matrix c.args.qp.now c.args.it.set (step_side c.args.qp.now c.args.it.row)) refl f.solution f.solves c.in-Some.direction.point.items c.in-Some.direction.multipliers.items
    f.point_is f.multipliers_are f.fits c.in_ok-turn.ensures.wide c.in_ok-turn.turn c.in_ok-turn.ensures.value)
    (wide_turn c.args.qp.now (sides_of c.args.sides.now) (position_of c.args.it) (right_matrix c.args.qp.now c.args.it.set (step_side c.args.qp.now c.args.it.row)) refl f.solution f.solves c.in-Some.direction.point.items c.in-Some.direction.multipliers.items
    f.point_is f.multipliers_are c.in_ok-turn.turn c.in_ok-turn.ensures.value)
    c.take_turn.ensures.wide

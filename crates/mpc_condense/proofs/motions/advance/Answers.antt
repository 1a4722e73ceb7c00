use Rattle.std.proofs.Common.{arith, rules}
use Rattle.std.proofs.lemmas.Result.{MatchResult-from_err}
use Rattle.mpc_condense.specs.Motion.{motion, StateFits}
use Rattle.mpc_condense.proofs.Writing.{if_too_wide}
use Rattle.mpc_condense.proofs.Advance.{next_motion, dots_fit, products_within, state_fits, drift_fits}
use Rattle.mpc_condense.proofs.motions.advance.Goals as goal

pub returns-clause-next : goal.returns-clause-next
returns-clause-next c =
    next_motion c.args.plant.now c.args.step c.args.motion.now.x c.args.motion.now.z c.add_to_row.new.out c.write_columns.new.out c.in_ok-from_counts.from_counts c.in_ok-from_moves.from_moves c.as_slice.result.now
    c.requires.motion c.as_slice.ensures c.in_ok-from_counts.ensures.ok c.in_ok-add_to_row.ensures.ok c.in_ok-from_moves.ensures.ok c.write_columns.ensures

pub returns-clause-wide : goal.returns-clause-wide
returns-clause-wide c =
    let plant = c.args.plant.now in
    state_fits plant c.args.step c.args.motion.now.x c.args.motion.now.z c.in_ok-from_counts.from_counts c.as_slice.result.now c.requires.motion c.as_slice.ensures c.in_ok-from_counts.ensures.ok
    (dots_fit plant (motion plant c.args.step) c.args.step plant.a c.args.motion.now.x c.args.motion.now.z plant.is_plant.a_shape.rows_are c.requires.motion (products_within plant.p c.args.step plant.horizon (omega arith)) c.in_ok-from_counts.ensures.wide c.in_ok-from_moves.ensures.wide)
    c.in_ok-add_to_row.ensures.wide

pub returns-in_err-add_to_row-clause-wide : goal.returns-in_err-add_to_row-clause-wide
returns-in_err-add_to_row-clause-wide c =
    let plant = c.args.plant.now in
    MatchResult-from_err c.from_residual-in_err-add_to_row.result _ _ (search rules)
    (λ e. if_too_wide e (¬ StateFits plant c.args.step)
    (λ q. c.in_err-add_to_row.ensures.wide (drift_fits plant c.args.step c.args.motion.now.x c.args.motion.now.z c.in_ok-from_counts.from_counts c.as_slice.result.now c.requires.motion c.as_slice.ensures c.in_ok-from_counts.ensures.ok q)))

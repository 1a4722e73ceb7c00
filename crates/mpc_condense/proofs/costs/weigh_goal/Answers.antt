use Rattle.std.proofs.Common.{rules}
use Rattle.std.proofs.lemmas.Result.{MatchResult-from_err}
use Rattle.mpc_condense.specs.Motion.{GoalFits}
use Rattle.mpc_condense.proofs.Writing.{if_too_wide}
use Rattle.mpc_condense.proofs.MoveSums.{is_goal, goal_fits, square_fits}
use Rattle.mpc_condense.proofs.costs.weigh_goal.Goals as goal

pub returns-clause-goal : goal.returns-clause-goal
returns-clause-goal c =
    is_goal c.args.plant.now c.write_dots.new.out c.as_slice-target.result.now c.as_slice-target.ensures c.in_ok-weighted.weighted c.in_ok-weighted.ensures c.in_ok-write_dots.ensures.ok
    c.row.result.now c.in_ok-square.square c.row.ensures c.in_ok-square.ensures.value

pub returns-clause-wide : goal.returns-clause-wide
returns-clause-wide c =
    goal_fits c.args.plant.now c.write_dots.new.out c.as_slice-target.result.now c.as_slice-target.ensures c.in_ok-weighted.weighted c.in_ok-weighted.ensures c.in_ok-write_dots.ensures.ok
    c.row.result.now c.row.ensures c.in_ok-write_dots.ensures.wide c.in_ok-square.ensures.wide

pub returns-in_err-square-clause-wide : goal.returns-in_err-square-clause-wide
returns-in_err-square-clause-wide c =
    let plant = c.args.plant.now in
    MatchResult-from_err c.from_residual-in_err-square.result _ _ (search rules)
    (λ e. if_too_wide e (¬ GoalFits plant)
    (λ g. c.in_err-square.ensures.wide (square_fits plant c.write_dots.new.out c.as_slice-target.result.now c.as_slice-target.ensures c.in_ok-weighted.weighted c.in_ok-weighted.ensures c.in_ok-write_dots.ensures.ok c.row.result.now c.row.ensures g)))

use Rattle.std.proofs.Common.{◌≡◌, sym, ◌∙◌, refl}
use Rattle.std.proofs.lemmas.Result.{MatchResult-from_err}
use Rattle.mpc_linear.specs.Dot.{DotFits}
use Rattle.mpc_rows.specs.ActiveSets.{row_of}
use Rattle.mpc_online.specs.StateRows.{level}
use Rattle.mpc_online.specs.Wholes.{entries_of}
use Rattle.mpc_online.specs.Answers.{position_of}
use Rattle.mpc_online.proofs.Lengths.{negative_not_zero, full_value, full_fits, wide_excess, slope_there, wide_slope}
use Rattle.mpc_online.specs.Evens.{sides_of}
use Rattle.mpc_online.proofs.turns.full_length.Goals as goal
use Rattle.mpc_online.proofs.turns.full_length.Goals.{In-Some}

pub excess_at-requires-clause-point : goal.excess_at-requires-clause-point
excess_at-requires-clause-point c = c.requires.position.size

slope : (c : In-Some) → DotFits (row_of c.args.qp.now.g.rows c.args.it.now.row) c.args.direction.now.point.items × (c.in-Some.slope ≡ level c.args.qp.now c.args.direction.now.point.items c.args.it.now.row)
slope c = slope_there c.args.qp.now c.args.it.now.row c.args.direction.now.point.items c.args.direction.now.slope c.in-Some.slope c.in-Some.is c.requires.slope_is

pub div-requires : goal.div-requires
div-requires c =
    let d = (goal.at.div-requires c).In-Some in
    negative_not_zero c.neg.result c.in-Some.slope c.neg.ensures (λ e. c.requires.slope (sym (slope d).1 ∙ e))

pub returns-clause-value : goal.returns-clause-value
returns-clause-value c =
    let d = (goal.at.returns-clause-value c).In-Some in
    full_value c.args.qp.now (sides_of c.args.sides.now) (position_of c.args.it.now) c.args.direction.now.point.items (entries_of c.args.it.now.point) refl c.in_ok-above.above c.in-Some.slope c.neg.result c.in_ok-above.ensures.value (slope d).1 c.neg.ensures c.div.result c.div.ensures.value

pub returns-clause-wide : goal.returns-clause-wide
returns-clause-wide c =
    let d = (goal.at.returns-clause-wide c).In-Some in
    full_fits c.args.qp.now (sides_of c.args.sides.now) (position_of c.args.it.now) c.args.direction.now.point.items (entries_of c.args.it.now.point) refl c.in_ok-above.above c.in-Some.slope c.neg.result c.in_ok-above.ensures.value (slope d).1 c.neg.ensures
    c.in_ok-above.ensures.wide (slope d).0 c.div.result c.div.ensures.wide

pub returns-in_err-above-clause-wide : goal.returns-in_err-above-clause-wide
returns-in_err-above-clause-wide c =
    MatchResult-from_err c.from_residual.result _ _ c.from_residual.ensures.0
    (λ _. wide_excess c.args.qp.now (sides_of c.args.sides.now) (position_of c.args.it.now) c.args.direction.now.point.items (entries_of c.args.it.now.point) refl c.in_err-above.ensures.wide)

pub returns-in_default-clause-wide : goal.returns-in_default-clause-wide
returns-in_default-clause-wide c = wide_slope c.args.qp.now (sides_of c.args.sides.now) (position_of c.args.it.now) c.args.direction.now.point.items c.args.direction.now.slope c.in_default.is c.requires.slope_is

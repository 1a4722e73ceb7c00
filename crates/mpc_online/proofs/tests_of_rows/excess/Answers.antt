use Rattle.std.proofs.Common.{◌≡◌, List, ◌∙◌, ap, subst}
use Rattle.std.proofs.lemmas.Result.{MatchResult-from_err}
use Rattle.mpc_exact.specs.Rational.{ℚ, ◌-ℚ◌}
use Rattle.mpc_space.specs.Vector.{dot}
use Rattle.mpc_space.proofs.Outcomes.{value_as}
use Rattle.mpc_linear.specs.Dot.{DotFits}
use Rattle.mpc_online.specs.StateRows.{level, side}
use Rattle.mpc_online.proofs.RowTests.{test_fits, test_wide}
use Rattle.mpc_online.specs.Wholes.{entries_of}
use Rattle.mpc_online.specs.Evens.{sides_of}
use Rattle.mpc_online.proofs.tests_of_rows.excess.Goals as goal
use Rattle.mpc_online.proofs.tests_of_rows.excess.Goals.{After-sub}

level_is : (c : After-sub) → c.in_ok-level.level ≡ level c.args.qp.now (entries_of c.args.point.now) c.args.row_number
level_is c = c.in_ok-level.ensures.value ∙ ap (λ (r : List ℚ). dot r (entries_of c.args.point.now)) c.row.ensures

side_is : (c : After-sub) → c.side_at.result ≡ side (sides_of c.args.sides.now) c.args.row_number
side_is c = c.side_at.ensures

pub returns-clause-value : goal.returns-clause-value
returns-clause-value c =
    let d = (goal.at.returns-clause-value c).After-sub in
    value_as c.sub.result _ (level c.args.qp.now (entries_of c.args.point.now) c.args.row_number -ℚ side (sides_of c.args.sides.now) c.args.row_number) (λ t. level_is d t -ℚ side_is d t) c.sub.ensures.value

pub returns-clause-wide : goal.returns-clause-wide
returns-clause-wide c =
    let d = (goal.at.returns-clause-wide c).After-sub in
    test_fits c.args.qp.now (sides_of c.args.sides.now) (entries_of c.args.point.now) c.args.row_number c.in_ok-level.level c.side_at.result (level_is d) (side_is d)
    (subst (λ (r : List ℚ). DotFits r (entries_of c.args.point.now)) c.row.ensures c.in_ok-level.ensures.wide) c.sub.result c.sub.ensures.wide

pub returns-in_err-level-clause-wide : goal.returns-in_err-level-clause-wide
returns-in_err-level-clause-wide c =
    MatchResult-from_err c.from_residual.result _ _ c.from_residual.ensures.0
    (λ _. test_wide c.args.qp.now (sides_of c.args.sides.now) (entries_of c.args.point.now) c.args.row_number c.row.result.now c.row.ensures c.in_err-level.ensures.wide)

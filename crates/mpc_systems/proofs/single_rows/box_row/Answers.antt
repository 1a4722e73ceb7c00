use Rattle.std.proofs.Common.{◌≡◌, ◌+◌, ◌/◌, ◌<◌, suc, pos, negsuc, false, length, ap, ◌∙◌, arith}
use Rattle.mpc_exact.specs.Rational.{int}
use Rattle.mpc_rows.specs.SetRuns.{axis}
use Rattle.mpc_systems.proofs.RowWriting.{same_value, lower_at, upper_at}
use Rattle.mpc_systems.proofs.Wholes.{count_back}
use Rattle.mpc_systems.proofs.single_rows.box_row.Goals as goal

pub returns-then-place-coordinate : goal.returns-then-place-coordinate
returns-then-place-coordinate c =
    let within : c.args.place / 2 < length c.args.counts.now = omega arith in
    same_value c.axis_row.result _ _
    ((λ t. record { a = axis c.args.width (c.args.place / 2) (int (negsuc 0)); b = c.whole.ensures t; strict = false }) ∙ lower_at c.args.width c.args.counts.now (c.args.place / 2) c.args.place within c.if-place-coordinate.true) c.axis_row.ensures

pub returns-else-place-coordinate : goal.returns-else-place-coordinate
returns-else-place-coordinate c =
    let within : c.args.place / 2 < length c.args.counts.now = omega arith in
    let odd : c.args.place ≡ suc (c.args.place / 2 + c.args.place / 2) = omega (arith, c.if-place-coordinate.false) in
    same_value c.axis_row-else-place-coordinate.result _ _
    ((λ t. record { a = axis c.args.width (c.args.place / 2) (int (pos 1)); b = (c.whole-else-place-coordinate.ensures ∙ count_back c.at.result.now (omega arith) ∙ ap (λ k. int (pos k)) c.at.ensures) t; strict = false })
    ∙ upper_at c.args.width c.args.counts.now (c.args.place / 2) c.args.place within odd) c.axis_row-else-place-coordinate.ensures

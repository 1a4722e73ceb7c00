use Rattle.std.proofs.Common.{◌≡◌, ◌+◌, ◌/◌, ◌<◌, false, suc, pos, length, ap, ◌∙◌, arith}
use Rattle.mpc_exact.specs.Rational.{int}
use Rattle.mpc_rows.specs.SetRuns.{axis}
use Rattle.mpc_check.specs.Columns.{number_in}
use Rattle.mpc_check.proofs.Wholes.{count_back}
use Rattle.mpc_check.proofs.WholeRows.{read_back, lower_at, upper_at}
use Rattle.mpc_check.proofs.whole_sums.box_number.Goals as goal

pub returns-then-place-state : goal.returns-then-place-state
returns-then-place-state c =
    let width = length c.args.counts.now in
    let within : c.args.place / 2 < width = omega arith in
    ap int (read_back c.axis_row_number.result c.axis_row_number.type_inv)
    ∙ c.axis_row_number.ensures width c.requires.column
    ∙ ap (number_in c.args.column) (lower_at width c.args.counts.now (c.args.place / 2) c.args.place within c.if-place-state.true)

pub returns-else-place-state : goal.returns-else-place-state
returns-else-place-state c =
    let width = length c.args.counts.now in
    let within : c.args.place / 2 < width = omega arith in
    let odd : c.args.place ≡ suc (c.args.place / 2 + c.args.place / 2) = omega (arith, c.if-place-state.false) in
    ap int (read_back c.axis_row_number-else-place-state.result c.axis_row_number-else-place-state.type_inv)
    ∙ c.axis_row_number-else-place-state.ensures width c.requires.column
    ∙ ap (λ b. number_in c.args.column (record { a = axis width (c.args.place / 2) (int (pos 1)); b = b; strict = false })) (count_back c.at.result.now (omega arith) ∙ ap (λ k. int (pos k)) c.at.ensures)
    ∙ ap (number_in c.args.column) (upper_at width c.args.counts.now (c.args.place / 2) c.args.place within odd)

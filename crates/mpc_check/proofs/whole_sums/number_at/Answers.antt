use Rattle.std.proofs.Common.{◌-◌, ◌*◌, ◌∙◌, ap, arith}
use Rattle.mpc_exact.specs.Rational.{int}
use Rattle.mpc_check.specs.Columns.{number_in}
use Rattle.mpc_check.proofs.WholeRows.{read_back, held_box, held_turn, held_last}
use Rattle.mpc_check.proofs.whole_sums.number_at.Goals as goal

pub returns-then-place-states : goal.returns-then-place-states
returns-then-place-states c =
    ap int (read_back c.box_number.result c.box_number.type_inv)
    ∙ c.box_number.ensures
    ∙ ap (number_in c.args.column) (held_box c.args.qp.now c.args.tree.now c.args.way.now c.args.row.now c.args.place (omega (arith, c.len-states.ensures, c.if-place-states.true)))

pub returns-then-behind-way : goal.returns-then-behind-way
returns-then-behind-way c =
    ap int (read_back c.turn_number.result c.turn_number.type_inv)
    ∙ c.turn_number.ensures
    ∙ ap (number_in c.args.column)
    (held_turn c.args.qp.now c.args.tree.now c.args.way.now c.args.row.now c.args.place (c.args.place - 2 * c.len-states.result) _ (ap (λ n. c.args.place - 2 * n) c.len-states.ensures) (omega (arith, c.len-states.ensures, c.if-place-states.false)) c.if-behind-way.true)

pub returns : goal.returns
returns c =
    ap int (read_back c.side_row_number.result c.side_row_number.type_inv)
    ∙ c.side_row_number.ensures
    ∙ ap (number_in c.args.column)
    (held_last c.args.qp.now c.args.tree.now c.args.way.now c.args.row.now c.args.place (c.args.place - 2 * c.len-states.result) (ap (λ n. c.args.place - 2 * n) c.len-states.ensures) (omega (arith, c.len-states.ensures, c.if-place-states.false)) c.if-behind-way.false c.requires.place)

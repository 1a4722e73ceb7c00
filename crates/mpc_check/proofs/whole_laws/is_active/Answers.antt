use Rattle.std.proofs.Common.{◌≡◌, ◌-◌, ◌<◌, ◌^◌, ◌≤◌, get_or, pos, ◌*ℤ◌, unsigned_abs, sym, subst, ◌∙◌, to_z, of_z, arith}
use Rattle.std.specs.Int.{w128}
use Rattle.mpc_check.proofs.WholeSums.{read_wide, read_sum}
use Rattle.mpc_check.proofs.WholeLaws.{number_small, row_most, room_for, active_met}
use Rattle.mpc_check.proofs.whole_laws.is_active.Goals as goal
use Rattle.mpc_check.proofs.whole_laws.is_active.Goals.{After-index}

w_size : (c : After-index) → unsigned_abs (get_or c.index.result.now.numerators c.args.at_column (pos 0)) ≤ 2 ^ 61
w_size c =
    let qp = c.args.qp.now in
    number_small c.index.result.now c.args.at_column
    (row_most qp.w c.args.program.now.den c.args.program.now.w.items c.requires.program.w (c.args.member - 1) (subst (λ k. c.args.member - 1 < k) (sym qp.is_program.w_shape.rows_are) (omega (arith, c.requires.from_one, c.requires.to_last))) c.index.result.now c.index.ensures)

w_read : (c : After-index) → to_z w128 (of_z w128 (get_or c.index.result.now.numerators c.args.at_column (pos 0))) ≡ get_or c.index.result.now.numerators c.args.at_column (pos 0)
w_read c = read_sum (get_or c.index.result.now.numerators c.args.at_column (pos 0)) (let l = w_size c in omega (arith, l))

pub product-side-requires-clause-x_small : goal.product-side-requires-clause-x_small
product-side-requires-clause-x_small c = let at = (goal.at.product-side-requires-clause-x_small c).After-index in subst (λ z. unsigned_abs z ≤ 2 ^ 61) (sym (w_read at)) (w_size at)

pub dot_from-total-requires-clause-room : goal.dot_from-total-requires-clause-room
dot_from-total-requires-clause-room c =
    room_for c.index-2.result.now c.args.column.now.moves 0
    (row_most c.args.qp.now.g c.args.program.now.den c.args.program.now.g.items c.requires.program.g (c.args.member - 1) (omega (arith, c.requires.from_one, c.requires.to_last)) c.index-2.result.now c.index-2.ensures)
    c.requires.coefficients.moves.most (omega arith)

pub returns : goal.returns
returns c t =
    let at = (goal.at.returns c).After-index in
    let col = c.args.column.now in
    let side = c.product-side.result in
    active_met c.args.qp.now c.args.program.now c.requires.program c.args.law.now c.requires.shape c.args.at_column col c.requires.coefficients c.requires.column c.args.member c.requires.from_one c.requires.to_last c.index-2.result.now c.index.result.now c.index-2.ensures c.index.ensures
    c.rows.result c.rows.ensures.value side c.dot_from-total.result (c.product-side.ensures.value ∙ (λ i. w_read at i *ℤ pos col.den)) c.dot_from-total.ensures.sum
    (sym (read_wide c.dot_from-total.result c.dot_from-total.type_inv) ∙ c.are_same.ensures.0 t ∙ read_wide side c.product-side.type_inv)

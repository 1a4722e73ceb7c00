use Rattle.std.proofs.Common.{◌≡◌, ◌+◌, ◌*◌, ◌<◌, ◌^◌, ◌≤◌, get_or, pos, ◌*ℤ◌, unsigned_abs, ◌∙◌, sym, ap, subst, to_z, of_z, arith}
use Rattle.std.specs.Int.{w128}
use Rattle.mpc_exact.specs.Rational.{frac}
use Rattle.mpc_wholes.specs.Sums.{AddsDot}
use Rattle.mpc_check.proofs.WholeSums.{read_wide, read_sum}
use Rattle.mpc_check.proofs.WholeLaws.{number_small, row_most, room_for, seven_products, gradient_value, gradient_fits}
use Rattle.mpc_check.proofs.whole_laws.gradient_over.Goals as goal
use Rattle.mpc_check.proofs.whole_laws.gradient_over.Goals.{After-index, After-index-2, After-product-start, After-dot_from}

f_size : (c : After-index) → unsigned_abs (get_or c.index.result.now.numerators c.args.at_column (pos 0)) ≤ 2 ^ 61
f_size c =
    let qp = c.args.qp.now in
    number_small c.index.result.now c.args.at_column (row_most qp.f c.args.program.now.den c.args.program.now.f.items c.requires.program.f c.args.line (subst (λ k. c.args.line < k) (sym qp.is_program.f_shape.rows_are) c.requires.line) c.index.result.now c.index.ensures)

f_read : (c : After-index) → to_z w128 (of_z w128 (get_or c.index.result.now.numerators c.args.at_column (pos 0))) ≡ get_or c.index.result.now.numerators c.args.at_column (pos 0)
f_read c = read_sum (get_or c.index.result.now.numerators c.args.at_column (pos 0)) (let l = f_size c in omega (arith, l))

h_size : (c : After-index-2) → c.index-2.result.now.most ≤ 2 ^ 61
h_size c = row_most c.args.qp.now.h c.args.program.now.den c.args.program.now.h.items c.requires.program.h c.args.line c.requires.line c.index-2.result.now c.index-2.ensures

pub product-start-requires-clause-x_small : goal.product-start-requires-clause-x_small
product-start-requires-clause-x_small c = let at = (goal.at.product-start-requires-clause-x_small c).After-index in subst (λ z. unsigned_abs z ≤ 2 ^ 61) (sym (f_read at)) (f_size at)

start_is : (c : After-product-start) → to_z w128 (of_z w128 (get_or c.index.result.now.numerators c.args.at_column (pos 0))) ≡ get_or c.index.result.now.numerators c.args.at_column (pos 0)
    → to_z w128 (of_z w128 c.product-start.result) ≡ get_or c.index.result.now.numerators c.args.at_column (pos 0) *ℤ pos c.args.column.now.den
start_is c read = read_wide c.product-start.result c.product-start.type_inv ∙ c.product-start.ensures.value ∙ (λ i. read i *ℤ pos c.args.column.now.den)

pub dot_from-moved-requires-clause-room : goal.dot_from-moved-requires-clause-room
dot_from-moved-requires-clause-room c =
    let at = (goal.at.dot_from-moved-requires-clause-room c).After-index-2 in
    subst (λ z. unsigned_abs z + 6 * (c.index-2.result.now.most * c.args.column.now.moves.most) < 2 ^ 127) (sym (read_wide c.product-start.result c.product-start.type_inv))
    (room_for c.index-2.result.now c.args.column.now.moves (unsigned_abs c.product-start.result) (h_size at) c.requires.coefficients.moves.most (let l = c.product-start.ensures.small in omega (arith, l)))

pub dot_from-requires-clause-room : goal.dot_from-requires-clause-room
dot_from-requires-clause-room c =
    let at = (goal.at.dot_from-requires-clause-room c).After-index-2 in
    subst (λ z. unsigned_abs z + 6 * (c.member_column-members.result.most * c.args.column.now.mults.most) < 2 ^ 127) (sym (read_wide c.dot_from-moved.result c.dot_from-moved.type_inv))
    (room_for c.member_column-members.result c.args.column.now.mults (unsigned_abs c.dot_from-moved.result) c.member_column-members.ensures.most c.requires.coefficients.mults.most
    (seven_products c.index-2.result.now c.args.column.now.moves (unsigned_abs c.product-start.result) (unsigned_abs c.dot_from-moved.result) (h_size at) c.requires.coefficients.moves.most c.product-start.ensures.small
    (subst (λ z. unsigned_abs c.dot_from-moved.result ≤ unsigned_abs z + 6 * (c.index-2.result.now.most * c.args.column.now.moves.most)) (read_wide c.product-start.result c.product-start.type_inv) c.dot_from-moved.ensures.size)))

more : (c : After-dot_from) → AddsDot c.member_column-members.result c.args.column.now.mults c.size.result c.dot_from-moved.result c.dot_from.result
more c = subst (λ z. AddsDot c.member_column-members.result c.args.column.now.mults c.size.result z c.dot_from.result) (read_wide c.dot_from-moved.result c.dot_from-moved.type_inv) c.dot_from.ensures.sum

pub returns-clause-value : goal.returns-clause-value
returns-clause-value c =
    let at = goal.at.returns-clause-value c in
    gradient_value c.args.qp.now c.args.program.now c.requires.program c.args.law.now c.requires.shape c.args.at_column c.args.column.now c.requires.coefficients c.requires.column c.args.line c.requires.line c.index.result.now c.index-2.result.now c.member_column-members.result
    c.index.ensures c.index-2.ensures c.member_column-members.ensures c.rows-count.result c.size.result c.rows-count.ensures.value c.size.ensures.value (to_z w128 (of_z w128 c.product-start.result)) c.dot_from-moved.result (start_is at.After-product-start (f_read at.After-index)) c.dot_from-moved.ensures.sum c.dot_from.result (more at.After-dot_from)
    ∙ ap (λ z. frac z (c.args.program.now.den * c.args.column.now.den)) (sym (read_wide c.dot_from.result c.dot_from.type_inv))

pub returns-clause-fits : goal.returns-clause-fits
returns-clause-fits c =
    let at = goal.at.returns-clause-fits c in
    gradient_fits c.args.qp.now c.args.program.now c.requires.program c.args.law.now c.requires.shape c.args.at_column c.args.column.now c.requires.coefficients c.requires.column c.args.line c.requires.line c.index.result.now c.index-2.result.now c.member_column-members.result
    c.index.ensures c.index-2.ensures c.member_column-members.ensures c.rows-count.result c.size.result c.rows-count.ensures.value c.size.ensures.value (to_z w128 (of_z w128 c.product-start.result)) c.dot_from-moved.result (start_is at.After-product-start (f_read at.After-index)) c.dot_from-moved.ensures.sum c.dot_from.result (more at.After-dot_from)

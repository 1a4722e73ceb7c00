use Rattle.std.proofs.Common.{◌≡◌, ◌+◌, ◌≤◌, length, ◌∙◌, arith}
use Rattle.mpc_rows.proofs.LawRowLemmas.{sides_value, form_size}
use Rattle.mpc_rows.proofs.PlaceLemmas.{member_place}
use Rattle.mpc_rows.proofs.law_rows.sides.Goals as goal

pub returns-clause-value : goal.returns-clause-value
returns-clause-value c =
    let columns : c.cols-column-end.result ≡ length c.args.qp.now.counts + 1 = c.cols-column-end.ensures.value ∙ c.requires.shape.moves_shape.columns_are in
    let over : c.cols-column-end.result ≤ c.loop-column.column = c.loop-column-test.false in
    let most : c.loop-column.column ≤ c.cols-column-end.result = c.loop-column.auto.column-end (omega arith) in
    sides_value c.args.qp.now c.args.law.now c.args.row c.loop-column.column c.loop-column.sides c.loop-column.invariant (omega arith) (omega arith)
    (form_size c.args.qp.now c.args.law.now c.args.row c.requires.shape (λ e. (member_place c.args.law.now.set c.args.row e).0))

use Rattle.std.proofs.Common.{◌≡◌, ◌+◌, ◌-◌, subst, arith}
use Rattle.mpc_tree.specs.WholeRows.{IsPlainRow}
use Rattle.mpc_tree.proofs.WholeRows.{AreFirstRows, first_more, rows_all, sizes_all}
use Rattle.mpc_tree.proofs.rows.whole_rows.Goals as goal

pub loop-row_number-preserved : goal.loop-row_number-preserved
loop-row_number-preserved c =
    let next : c.loop-row_number.row_number - 1 + 1 ≡ c.loop-row_number.row_number + 1 - 1 = omega arith in
    let here : c.loop-row_number.row_number ≡ c.loop-row_number.row_number - 1 + 1 = omega arith in
    subst (λ k. AreFirstRows c.args.qp.now c.args.law.now k c.push.new.self.items) next
    (first_more c.args.qp.now c.args.law.now (c.loop-row_number.row_number - 1) c.loop-row_number.rows.items c.push.new.self.items c.in_ok-row_of.field-0 c.loop-row_number.invariant
    (subst (λ k. IsPlainRow c.args.qp.now c.args.law.now k c.in_ok-row_of.field-0) here c.in_ok-row_of.ensures) c.in_ok-push.ensures.items)

pub returns-clause-rows : goal.returns-clause-rows
returns-clause-rows c = rows_all c.args.qp.now c.args.law.now (c.loop-row_number.row_number - 1) c.loop-row_number.rows.items (omega (arith, c.rows-row_number-end.ensures.value)) c.loop-row_number.invariant

pub returns-clause-size : goal.returns-clause-size
returns-clause-size c = sizes_all c.args.qp.now c.args.law.now (c.loop-row_number.row_number - 1) c.loop-row_number.rows.items (omega (arith, c.rows-row_number-end.ensures.value)) c.loop-row_number.invariant

use Rattle.std.proofs.Common.{◌<◌, IfSome, pos, to_z, of_z, sym, ◌∙◌, ap, subst, arith}
use Rattle.std.specs.Int.{w64, w128}
use Rattle.mpc_exact.specs.Rational.{int}
use Rattle.mpc_exact.proofs.RationalOrder.{positive_int}
use Rattle.mpc_rows.specs.LawRows.{member_form}
use Rattle.mpc_sweep.specs.Numbers.{number}
use Rattle.mpc_tree.specs.WholeRows.{IsRead}
use Rattle.mpc_tree.proofs.WholeRows.{read_wide, row_made, member_bound}
use Rattle.mpc_tree.proofs.rows.member_row.Goals as goal

pub returns : goal.returns
returns c =
    let qp = c.args.qp.now in
    let law = c.args.law.now in
    let s = c.in-Some.mults in
    let place = c.args.place in
    let read : IsRead law.mults s = subst (λ o. IfSome o (IsRead law.mults)) c.in-Some.is c.requires.unknowns in
    row_made c.form_theorems.ensures qp law c.args.row_number c.requires.shape c.law_theorems.ensures.law_row_size (int (pos s.den)) (positive_int s.den read.table.some_den) (member_form law place)
    (c.form_theorems.ensures.member qp law c.args.row_number place c.requires.member) _ c.in_ok-row.row c.in_ok-member_sides.ensures
    (ap int (ap (λ z. to_z w128 (of_z w128 (to_z w64 (of_z w64 z)))) c.at.ensures ∙ read_wide (number s place 0) (read.table.small.each _))
    ∙ member_bound law s read place 0 (subst (λ n. place < n) (sym c.requires.shape.mults_shape.rows_are) c.requires.member.2) (omega (arith, c.requires.shape.mults_shape.columns_are)))
    c.in_ok-row.ensures.scaled c.in_ok-row.ensures.primitive c.in_ok-row.ensures.small c.in_ok-row.ensures.b_small

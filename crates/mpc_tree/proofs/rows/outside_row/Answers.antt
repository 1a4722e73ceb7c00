use Rattle.std.proofs.Common.{neg_ℤ, IfSome, length, ◌∙◌, ap, subst}
use Rattle.mpc_exact.specs.Rational.{int}
use Rattle.mpc_space.specs.Vector.{coordinate}
use Rattle.mpc_rows.specs.LawRows.{excess_form}
use Rattle.mpc_tree.specs.WholeRows.{all_dens, AreSides}
use Rattle.mpc_tree.proofs.WholeRows.{read64, read_wide, row_made, all_positive, outside_bound}
use Rattle.mpc_tree.proofs.rows.outside_row.Goals as goal

pub returns : goal.returns
returns c =
    let qp = c.args.qp.now in
    let law = c.args.law.now in
    let scale = all_dens c.args.numbers.now c.args.unknowns.now in
    let form = excess_form qp law c.args.row_number in
    row_made c.form_theorems.ensures qp law c.args.row_number c.requires.shape c.law_theorems.ensures.law_row_size scale (all_positive qp law c.args.numbers.now c.args.unknowns.now c.requires.numbers c.requires.unknowns) form
    (c.form_theorems.ensures.outside qp law c.args.row_number c.requires.outside) _ c.in_ok-row.row
    (subst (λ o. IfSome o (AreSides scale form (length qp.counts))) c.in-Some-2.is c.in_ok-sides.ensures)
    (ap int (read_wide c.negative.result c.negative.ensures.small ∙ c.negative.ensures.value ∙ ap neg_ℤ (read64 c.in-Some.constant c.in-Some.ensures.small)) ∙ outside_bound c.in-Some.constant scale (coordinate form 0) c.in-Some.ensures.value)
    c.in_ok-row.ensures.scaled c.in_ok-row.ensures.primitive c.in_ok-row.ensures.small c.in_ok-row.ensures.b_small

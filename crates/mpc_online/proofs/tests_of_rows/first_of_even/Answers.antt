use Rattle.std.proofs.Common.{sym, ◌∙◌, arith}
use Rattle.mpc_online.proofs.WholePoints.{whole_size}
use Rattle.mpc_online.proofs.tests_of_rows.first_of_even.Goals as goal

pub first_in_wholes-requires-clause-count : goal.first_in_wholes-requires-clause-count
first_in_wholes-requires-clause-count c = sym (whole_size c.args.point.now c.in-Whole.numbers c.in-Whole.count c.in-Whole.is) ∙ c.requires.point

pub first_in_wholes-requires-clause-few : goal.first_in_wholes-requires-clause-few
first_in_wholes-requires-clause-few c =
    let size = whole_size c.args.point.now c.in-Whole.numbers c.in-Whole.count c.in-Whole.is in
    let few = c.args.qp.now.is_program.few_unknowns in
    omega (arith, size, few, c.requires.point)

use Rattle.std.proofs.Common.{sym, ◌∙◌, arith}
use Rattle.mpc_online.proofs.WholePoints.{whole_size}
use Rattle.mpc_online.proofs.tests_of_rows.excess_of_even.Goals as goal

pub excess_in_wholes-requires-clause-count : goal.excess_in_wholes-requires-clause-count
excess_in_wholes-requires-clause-count c = sym (whole_size c.args.point.now c.in-Whole.numbers c.in-Whole.count c.in-Whole.is) ∙ c.requires.point

pub excess_in_wholes-requires-clause-few : goal.excess_in_wholes-requires-clause-few
excess_in_wholes-requires-clause-few c =
    let size = whole_size c.args.point.now c.in-Whole.numbers c.in-Whole.count c.in-Whole.is in
    let few = c.args.qp.now.is_program.few_unknowns in
    omega (arith, size, few, c.requires.point)

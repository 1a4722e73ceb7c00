use Rattle.std.proofs.Common.{◌∙◌, ap}
use Rattle.mpc_exact.specs.Rational.{int}
use Rattle.mpc_check.proofs.WholeRows.{read_neg, no_side_number}
use Rattle.mpc_check.proofs.whole_sums.side_row_number.Goals as goal

pub returns-else-yes : goal.returns-else-yes
returns-else-yes c =
    ap int (read_neg c.row_number-number.result c.row_number-number.ensures.small)
    ∙ no_side_number c.args.column c.args.row.now c.args.yes c.row_number-number.result c.if-yes.false c.row_number-number.ensures.number

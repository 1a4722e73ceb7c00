use Rattle.std.proofs.Common.{◌∙◌, ap, refl, length}
use Rattle.mpc_exact.specs.Rational.{int}
use Rattle.mpc_check.specs.Columns.{number_in}
use Rattle.mpc_check.proofs.SplitRows.{split_size, split_small, split_side_small, row_behind}
use Rattle.mpc_check.proofs.WholeRows.{read_back, in_columns}
use Rattle.mpc_check.proofs.whole_sums.turn_number.Goals as goal

pub side_row_number-requires-clause-size : goal.side_row_number-requires-clause-size
side_row_number-requires-clause-size c = record {
  size = refl;
  small = split_small c.args.states c.args.tree.now c.requires.splits c.args.turn.split c.at.result.now c.at.ensures c.in-Split.row c.in-Split.is;
  b_small = split_side_small c.args.states c.args.tree.now c.requires.splits c.args.turn.split c.at.result.now c.at.ensures c.in-Split.row c.in-Split.is;
}

pub side_row_number-requires-clause-column : goal.side_row_number-requires-clause-column
side_row_number-requires-clause-column c =
    in_columns c.args.column (length c.in-Split.row.a) c.args.states (split_size c.args.states c.args.tree.now c.requires.splits c.args.turn.split c.at.result.now c.at.ensures c.in-Split.row c.in-Split.is) c.requires.column

pub returns : goal.returns
returns c =
    ap int (read_back c.side_row_number.result c.side_row_number.type_inv)
    ∙ c.side_row_number.ensures
    ∙ ap (number_in c.args.column) (row_behind c.args.states c.args.tree.now c.requires.splits c.args.turn.split c.at.result.now c.at.ensures c.in-Split.row c.in-Split.is c.args.turn c.args.turn.yes refl refl)

use Rattle.std.proofs.Common.{true, false, refl, ap}
use Rattle.mpc_systems.specs.Writing.{widened}
use Rattle.mpc_check.proofs.RowPlaces.{same_value}
use Rattle.mpc_check.proofs.SplitRows.{split_small, split_side_small, row_behind}
use Rattle.mpc_check.proofs.rows.turn_row.Goals as goal

pub widened_whole_row-requires-clause-small : goal.widened_whole_row-requires-clause-small
widened_whole_row-requires-clause-small c = split_small c.args.states c.args.tree.now c.requires.splits c.args.turn.split c.at.result.now c.at.ensures c.in-Split.row c.in-Split.is

pub widened_whole_row-requires-clause-b_small : goal.widened_whole_row-requires-clause-b_small
widened_whole_row-requires-clause-b_small c = split_side_small c.args.states c.args.tree.now c.requires.splits c.args.turn.split c.at.result.now c.at.ensures c.in-Split.row c.in-Split.is

pub widened_broken_row-requires-clause-small : goal.widened_broken_row-requires-clause-small
widened_broken_row-requires-clause-small c = split_small c.args.states c.args.tree.now c.requires.splits c.args.turn.split c.at.result.now c.at.ensures c.in-Split.row c.in-Split.is

pub widened_broken_row-requires-clause-b_small : goal.widened_broken_row-requires-clause-b_small
widened_broken_row-requires-clause-b_small c = split_side_small c.args.states c.args.tree.now c.requires.splits c.args.turn.split c.at.result.now c.at.ensures c.in-Split.row c.in-Split.is

pub returns-then-turn : goal.returns-then-turn
returns-then-turn c =
    same_value c.widened_whole_row.result _ _ (ap (widened c.args.more) (row_behind c.args.states c.args.tree.now c.requires.splits c.args.turn.split c.at.result.now c.at.ensures c.in-Split.row c.in-Split.is c.args.turn true refl c.if-turn.true)) c.widened_whole_row.ensures

pub returns-else-turn : goal.returns-else-turn
returns-else-turn c =
    same_value c.widened_broken_row.result _ _ (ap (widened c.args.more) (row_behind c.args.states c.args.tree.now c.requires.splits c.args.turn.split c.at.result.now c.at.ensures c.in-Split.row c.in-Split.is c.args.turn false refl c.if-turn.false)) c.widened_broken_row.ensures

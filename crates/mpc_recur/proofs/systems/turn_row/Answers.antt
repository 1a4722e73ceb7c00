use Rattle.std.proofs.Common.{true, false, refl}
use Rattle.mpc_space.proofs.Outcomes.{value_as}
use Rattle.mpc_recur.proofs.SplitRows.{split_fits, split_small, split_side_small, row_behind, side_wide, sized}
use Rattle.mpc_recur.proofs.systems.turn_row.Goals as goal

pub whole_row-requires-clause-small : goal.whole_row-requires-clause-small
whole_row-requires-clause-small c = split_small c.args.states c.args.tree.now c.requires.splits c.args.turn.split c.at.result.now c.at.ensures c.in-Split.row c.in-Split.is

pub whole_row-requires-clause-b_small : goal.whole_row-requires-clause-b_small
whole_row-requires-clause-b_small c = split_side_small c.args.states c.args.tree.now c.requires.splits c.args.turn.split c.at.result.now c.at.ensures c.in-Split.row c.in-Split.is

pub broken_row-requires-clause-small : goal.broken_row-requires-clause-small
broken_row-requires-clause-small c = split_small c.args.states c.args.tree.now c.requires.splits c.args.turn.split c.at.result.now c.at.ensures c.in-Split.row c.in-Split.is

pub broken_row-requires-clause-b_small : goal.broken_row-requires-clause-b_small
broken_row-requires-clause-b_small c = split_side_small c.args.states c.args.tree.now c.requires.splits c.args.turn.split c.at.result.now c.at.ensures c.in-Split.row c.in-Split.is

pub returns-then-turn-clause-row : goal.returns-then-turn-clause-row
returns-then-turn-clause-row c = value_as c.whole_row.result _ _ (row_behind c.args.states c.args.tree.now c.requires.splits c.args.turn.split c.at.result.now c.at.ensures c.in-Split.row c.in-Split.is c.args.turn true refl c.if-turn.true) c.whole_row.ensures

pub returns-then-turn-clause-size : goal.returns-then-turn-clause-size
returns-then-turn-clause-size c =
    sized c.whole_row.result _ c.args.states c.whole_row.ensures (side_wide c.args.states true c.in-Split.row (split_fits c.args.states c.args.tree.now c.requires.splits c.args.turn.split c.at.result.now c.at.ensures c.in-Split.row c.in-Split.is).size)

pub returns-else-turn-clause-row : goal.returns-else-turn-clause-row
returns-else-turn-clause-row c = value_as c.broken_row.result _ _ (row_behind c.args.states c.args.tree.now c.requires.splits c.args.turn.split c.at.result.now c.at.ensures c.in-Split.row c.in-Split.is c.args.turn false refl c.if-turn.false) c.broken_row.ensures

pub returns-else-turn-clause-size : goal.returns-else-turn-clause-size
returns-else-turn-clause-size c =
    sized c.broken_row.result _ c.args.states c.broken_row.ensures (side_wide c.args.states false c.in-Split.row (split_fits c.args.states c.args.tree.now c.requires.splits c.args.turn.split c.at.result.now c.at.ensures c.in-Split.row c.in-Split.is).size)

use Rattle.std.proofs.Common.{refl, arith, rules}
use Rattle.std.proofs.lemmas.Result.{MatchResult-from_err}
use Rattle.mpc_condense.specs.Blocks.{row_at}
use Rattle.mpc_condense.proofs.Writing.{fits_as, on_ok_as}
use Rattle.mpc_condense.proofs.Advance.{block_within}
use Rattle.mpc_condense.proofs.MoveSums.{goal_size, with_move, moves_fit, block_fits, column_fits, constant_fits}
use Rattle.mpc_condense.proofs.costs.add_move.Goals as goal

pub take_from_column-requires-clause-rows : goal.take_from_column-requires-clause-rows
take_from_column-requires-clause-rows c =
    let plant = c.args.plant.now in
    let size = goal_size plant c.args.goal.now.weighted c.args.goal.now.square c.row.result.now c.requires.goal c.row.ensures in
    omega (arith, size, block_within plant.p c.args.step plant.horizon c.requires.step, c.requires.sums.f_shape.rows_are)

pub returns-in_err-add_block-clause-wide : goal.returns-in_err-add_block-clause-wide
returns-in_err-add_block-clause-wide c =
    let plant = c.args.plant.now in
    let step = block_within plant.p c.args.step plant.horizon c.requires.step in
    MatchResult-from_err c.from_residual.result _ _ (search rules)
    (λ _ w. c.in_err-add_block.ensures.wide (block_fits plant c.args.step c.args.cost.now.h c.args.cost.now.f c.args.cost.now.y c.args.goal.now.weighted (row_at c.args.goal.now.weighted 0) c.args.goal.now.square step c.requires.sums c.requires.goal refl w))

pub returns-in_err-take_from_column-clause-wide : goal.returns-in_err-take_from_column-clause-wide
returns-in_err-take_from_column-clause-wide c =
    let plant = c.args.plant.now in
    let step = block_within plant.p c.args.step plant.horizon c.requires.step in
    MatchResult-from_err c.from_residual-in_err-take_from_column.result _ _ (search rules)
    (λ _ w. c.in_err-take_from_column.ensures.wide (column_fits plant c.args.step c.args.cost.now.h c.args.cost.now.f c.args.cost.now.y c.args.goal.now.weighted c.row.result.now c.args.goal.now.square step c.requires.sums c.requires.goal c.row.ensures w))

pub returns-clause-ok : goal.returns-clause-ok
returns-clause-ok c =
    let plant = c.args.plant.now in
    on_ok_as c.add_to_first.result _ _
    (λ yw. with_move plant c.args.step c.args.cost.now.h c.args.cost.now.f c.args.cost.now.y c.add_block.new.out c.take_from_column.new.out c.add_to_first.new.out c.args.goal.now.weighted c.row.result.now c.args.goal.now.square
    c.requires.sums c.requires.goal c.row.ensures c.in_ok-add_block.ensures.ok c.in_ok-take_from_column.ensures.ok yw)
    c.add_to_first.ensures.ok

pub returns-clause-wide : goal.returns-clause-wide
returns-clause-wide c =
    let plant = c.args.plant.now in
    let step = block_within plant.p c.args.step plant.horizon c.requires.step in
    fits_as c.add_to_first.result _ _
    (λ q. moves_fit plant c.args.step c.args.cost.now.h c.args.cost.now.f c.args.cost.now.y c.args.goal.now.weighted c.row.result.now c.args.goal.now.square step c.requires.sums c.requires.goal c.row.ensures c.in_ok-add_block.ensures.wide c.in_ok-take_from_column.ensures.wide q)
    (λ w. constant_fits plant c.args.step c.args.cost.now.h c.args.cost.now.f c.args.cost.now.y c.args.goal.now.weighted c.row.result.now c.args.goal.now.square step c.requires.sums c.requires.goal c.row.ensures w)
    c.add_to_first.ensures.wide

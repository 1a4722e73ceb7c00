use Rattle.std.proofs.Common.{◌≤◌, ◌^◌, unsigned_abs, sym, subst}
use Rattle.mpc_online.proofs.WholeMoves.{combination_is, combination_small, combination_fits}
use Rattle.mpc_online.proofs.whole_moves.combination.Goals as goal

pub overflow_add-result : goal.overflow_add-result
overflow_add-result c = combination_fits c.args.first c.args.left c.args.second c.args.right c.ranges.first.sfits c.ranges.left.sfits c.ranges.second.sfits c.ranges.right.sfits c.requires.left_small c.requires.right_small

pub returns-clause-value : goal.returns-clause-value
returns-clause-value c = combination_is c.args.first c.args.left c.args.second c.args.right c.ranges.first.sfits c.ranges.left.sfits c.ranges.second.sfits c.ranges.right.sfits c.requires.left_small c.requires.right_small

pub returns-clause-small : goal.returns-clause-small
returns-clause-small c =
    subst (λ z. unsigned_abs z ≤ 2 ^ 125) (sym (combination_is c.args.first c.args.left c.args.second c.args.right c.ranges.first.sfits c.ranges.left.sfits c.ranges.second.sfits c.ranges.right.sfits c.requires.left_small c.requires.right_small))
    (combination_small c.args.first c.args.left c.args.second c.args.right c.ranges.first.sfits c.ranges.left.sfits c.ranges.second.sfits c.ranges.right.sfits c.requires.left_small c.requires.right_small)

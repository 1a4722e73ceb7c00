use Rattle.std.proofs.Common.{length}
use Rattle.mpc_c.proofs.TableEnds.{moved, no_moves}
use Rattle.mpc_c.proofs.tables.reply.Goals as goal

pub returns-in-Moves-clause-moved : goal.returns-in-Moves-clause-moved
returns-in-Moves-clause-moved c = λ e parts suits.
    moved c.accepted_replies.ensures c.grid_points.ensures c.args.block.now c.args.counts.now (length c.args.moves.now) parts suits c.reply_in.new.moves c.in-Moves.node c.in-Moves.law (c.in-Moves.ensures.reply parts suits)

pub returns-in-Infeasible-clause-infeasible : goal.returns-in-Infeasible-clause-infeasible
returns-in-Infeasible-clause-infeasible c = λ e parts suits.
    no_moves c.accepted_replies.ensures c.grid_points.ensures c.args.block.now c.args.counts.now (length c.args.moves.now) parts suits c.in-Infeasible.node (c.in-Infeasible.ensures.reply parts suits)

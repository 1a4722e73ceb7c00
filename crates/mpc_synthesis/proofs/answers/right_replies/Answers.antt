use Rattle.mpc_synthesis.proofs.TreeWalks.{replies_right}
use Rattle.mpc_synthesis.proofs.answers.right_replies.Goals as goal

pub returns : goal.returns
returns c = replies_right c.preorder_theorems.ensures.joined c.best_replies.ensures.law c.best_replies.ensures.infeasible c.cover_theorems.ensures.of_every_table

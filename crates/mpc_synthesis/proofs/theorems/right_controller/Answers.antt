use Rattle.mpc_synthesis.proofs.ReplyLemmas.{controller_right, controller_replies}
use Rattle.mpc_synthesis.proofs.theorems.right_controller.Goals as goal

pub returns-clause-right : goal.returns-clause-right
returns-clause-right c = controller_right c.accepted_replies.ensures

pub returns-clause-replies : goal.returns-clause-replies
returns-clause-replies c = controller_replies c.replies_everywhere.ensures

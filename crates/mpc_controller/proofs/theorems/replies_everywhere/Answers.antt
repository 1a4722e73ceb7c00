use Rattle.mpc_controller.proofs.ReplyLemmas.{replies_everywhere as everywhere}
use Rattle.mpc_controller.proofs.theorems.replies_everywhere.Goals as goal

pub returns : goal.returns
returns c = everywhere

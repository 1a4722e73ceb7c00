use Rattle.mpc_plant.proofs.RightReply.{one_right}
use Rattle.mpc_plant.proofs.theorems.one_right_reply.Goals as goal

pub returns : goal.returns
returns c = one_right

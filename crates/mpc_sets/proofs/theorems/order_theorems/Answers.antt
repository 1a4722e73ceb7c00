use Rattle.mpc_sets.proofs.LawProofs.{order_theorems}
use Rattle.mpc_sets.proofs.theorems.order_theorems.Goals as goal

pub returns : goal.returns
returns c = order_theorems

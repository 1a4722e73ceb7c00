use Rattle.mpc_linear.proofs.LawProofs.{zero_theorems}
use Rattle.mpc_linear.proofs.theorems.zero_theorems.Goals as goal

pub returns : goal.returns
returns c = zero_theorems

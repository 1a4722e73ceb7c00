use Rattle.mpc_linear.proofs.LawProofs.{sum_theorems}
use Rattle.mpc_linear.proofs.theorems.sum_theorems.Goals as goal

pub returns : goal.returns
returns c = sum_theorems

use Rattle.mpc_linear.proofs.LawProofs.{grid_theorems}
use Rattle.mpc_linear.proofs.theorems.grid_theorems.Goals as goal

pub returns : goal.returns
returns c = grid_theorems

use Rattle.mpc_sets.proofs.LawProofs.{count_theorems}
use Rattle.mpc_sets.proofs.theorems.count_theorems.Goals as goal

pub returns : goal.returns
returns c = count_theorems

use Rattle.mpc_wholes.proofs.Terms.{over_theorems}
use Rattle.mpc_wholes.proofs.theorems.over_theorems.Goals as goal

pub returns : goal.returns
returns c = over_theorems

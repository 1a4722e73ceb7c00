use Rattle.mpc_quotients.proofs.OverTheorems.{over_theorems}
use Rattle.mpc_quotients.proofs.theorems.over_theorems.Goals as goal

pub returns : goal.returns
returns c = over_theorems

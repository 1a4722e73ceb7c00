use Rattle.mpc_whole.proofs.PositionTheorems.{position_theorems}
use Rattle.mpc_whole.proofs.theorems.position_theorems.Goals as goal

pub returns : goal.returns
returns c = position_theorems

use Rattle.mpc_recur.proofs.LoopLemmas.{safe_goes_on}
use Rattle.mpc_recur.proofs.theorems.safe_goes_on.Goals as goal

pub returns : goal.returns
returns c = safe_goes_on

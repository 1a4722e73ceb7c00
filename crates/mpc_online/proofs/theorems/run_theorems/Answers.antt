use Rattle.mpc_online.proofs.OneRun.{one_run_end}
use Rattle.mpc_online.proofs.theorems.run_theorems.Goals as goal

pub returns : goal.returns
returns c = one_run_end

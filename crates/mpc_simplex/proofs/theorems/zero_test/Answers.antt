use Rattle.mpc_runs.proofs.Turn.{zero_passes}
use Rattle.mpc_simplex.proofs.theorems.zero_test.Goals as goal

pub returns : goal.returns
returns c = zero_passes

use Rattle.mpc_controller.proofs.OneBoundLemmas.{one_first_broken, kept_not_broken}
use Rattle.mpc_controller.proofs.theorems.bound_theorems.Goals as goal

pub returns : goal.returns
returns c = record { one_first_broken = one_first_broken; kept_not_broken = kept_not_broken }

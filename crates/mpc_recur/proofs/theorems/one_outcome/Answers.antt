use Rattle.mpc_recur.proofs.OneOutcomes.{one_outcome}
use Rattle.mpc_recur.proofs.theorems.one_outcome.Goals as goal

pub returns : goal.returns
returns c = one_outcome c.one_path.ensures c.system_theorems.ensures.point_of_pairs

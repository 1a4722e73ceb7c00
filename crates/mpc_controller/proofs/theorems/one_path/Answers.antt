use Rattle.mpc_controller.proofs.PathLemmas.{one_path}
use Rattle.mpc_controller.proofs.theorems.one_path.Goals as goal

pub returns : goal.returns
returns c = one_path

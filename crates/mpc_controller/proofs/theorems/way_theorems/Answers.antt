use Rattle.mpc_controller.proofs.WayLemmas.{path_of_way, turns_of_way}
use Rattle.mpc_controller.proofs.theorems.way_theorems.Goals as goal

pub returns-clause-path : goal.returns-clause-path
returns-clause-path c = path_of_way

pub returns-clause-turns : goal.returns-clause-turns
returns-clause-turns c = turns_of_way

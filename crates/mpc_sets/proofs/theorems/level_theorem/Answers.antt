use Rattle.mpc_sets.proofs.LawProofs.{given_without_one}
use Rattle.mpc_sets.proofs.theorems.level_theorem.Goals as goal

pub returns : goal.returns
returns c = given_without_one

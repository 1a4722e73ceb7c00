use Rattle.mpc_sets.proofs.LawProofs.{member_theorems}
use Rattle.mpc_sets.proofs.theorems.member_theorems.Goals as goal

pub returns : goal.returns
returns c = member_theorems

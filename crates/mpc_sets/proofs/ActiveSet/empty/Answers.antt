use Rattle.mpc_sets.proofs.Masks.{members_of-none}
use Rattle.mpc_sets.proofs.ActiveSet.empty.Goals as goal

pub returns : goal.returns
returns c = members_of-none

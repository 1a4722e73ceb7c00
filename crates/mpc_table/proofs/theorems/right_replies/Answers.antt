use Rattle.mpc_table.proofs.LawLemmas.{replies_are_right}
use Rattle.mpc_table.proofs.theorems.right_replies.Goals as goal

pub returns : goal.returns
returns c = replies_are_right

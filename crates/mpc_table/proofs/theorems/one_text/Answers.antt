use Rattle.mpc_table.proofs.LawLemmas.{one_text}
use Rattle.mpc_table.proofs.theorems.one_text.Goals as goal

pub returns : goal.returns
returns c = one_text c.one_leaf.ensures

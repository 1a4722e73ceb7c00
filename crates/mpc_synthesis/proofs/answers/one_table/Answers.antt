use Rattle.mpc_synthesis.proofs.OneTable.{one_table}
use Rattle.mpc_synthesis.proofs.answers.one_table.Goals as goal

pub returns : goal.returns
returns c = one_table c.order_theorems.ensures

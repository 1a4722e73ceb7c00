use Rattle.mpc_condense.proofs.SameRows.{one_program}
use Rattle.mpc_condense.proofs.theorems.one_program.Goals as goal

pub returns : goal.returns
returns c = one_program

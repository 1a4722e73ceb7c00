use Rattle.mpc_condense.proofs.Admissible.{same_sequences, same_costs}
use Rattle.mpc_condense.proofs.theorems.program_theorems.Goals as goal

pub returns-clause-sequences : goal.returns-clause-sequences
returns-clause-sequences c = same_sequences

pub returns-clause-costs : goal.returns-clause-costs
returns-clause-costs c = same_costs

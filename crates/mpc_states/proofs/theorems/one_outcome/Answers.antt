use Rattle.mpc_states.proofs.OneOutcomes.{one_solve_outcome, one_robust_outcome}
use Rattle.mpc_states.proofs.theorems.one_outcome.Goals as goal

pub returns-clause-solve : goal.returns-clause-solve
returns-clause-solve c = one_solve_outcome c.one_reading.ensures c.one_program.ensures c.one_program_outcome.ensures

pub returns-clause-robust : goal.returns-clause-robust
returns-clause-robust c = one_robust_outcome c.one_reading.ensures c.one_program.ensures c.one_program_outcome.ensures c.tight_theorems.ensures.wide c.tight_theorems.ensures.none

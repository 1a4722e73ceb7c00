use Rattle.mpc_states.proofs.Complete.{solve_is_complete, robust_is_complete}
use Rattle.mpc_states.proofs.theorems.complete_inputs.Goals as goal

pub returns-clause-solve : goal.returns-clause-solve
returns-clause-solve c = solve_is_complete c.one_reading.ensures

pub returns-clause-robust : goal.returns-clause-robust
returns-clause-robust c = robust_is_complete c.one_reading.ensures

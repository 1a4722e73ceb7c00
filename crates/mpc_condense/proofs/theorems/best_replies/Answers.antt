use Rattle.mpc_condense.proofs.BestMoves.{law_is_right, infeasible_is_right}
use Rattle.mpc_condense.proofs.theorems.best_replies.Goals as goal

pub returns-clause-law : goal.returns-clause-law
returns-clause-law c = law_is_right c.program_theorems.ensures.sequences

pub returns-clause-infeasible : goal.returns-clause-infeasible
returns-clause-infeasible c = infeasible_is_right c.program_theorems.ensures.sequences

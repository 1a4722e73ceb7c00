use Rattle.mpc_synthesis.proofs.DecidedLemmas.{program_refused, wide_set_of, decided_by}
use Rattle.mpc_synthesis.proofs.verdicts.decided_in_threads.Goals as goal

pub returns-clause-decided : goal.returns-clause-decided
returns-clause-decided g c = decided_by c.legal_theorems.ensures.legal c.args.workers c.args.plant.now c.in-Ok.program c.in-Ok-decide_together.registry c.in-Ok.ensures.program c.in-Ok-decide_together.ensures.done c.in-Ok-decide_together.ensures.finished

pub returns-in-Err-decide_together-clause-refused : goal.returns-in-Err-decide_together-clause-refused
returns-in-Err-decide_together-clause-refused g c = λ extent. wide_set_of extent c.args.plant.now c.in-Ok.program c.in-Err-decide_together.error c.in-Ok.ensures.program c.in-Err-decide_together.ensures.refused

pub returns-in-Err-clause-refused : goal.returns-in-Err-clause-refused
returns-in-Err-clause-refused g c = λ extent. program_refused extent c.args.plant.now c.in-Err.error c.in-Err.ensures.cause

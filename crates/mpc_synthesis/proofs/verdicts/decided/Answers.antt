use Rattle.mpc_synthesis.proofs.DecidedLemmas.{program_refused, wide_set_of, decided_by}
use Rattle.mpc_synthesis.proofs.verdicts.decided.Goals as goal

pub returns-clause-decided : goal.returns-clause-decided
returns-clause-decided g c = decided_by c.legal_theorems.ensures.legal 1 c.args.plant.now c.in-Ok.program c.in-Ok-decide_alone.registry c.in-Ok.ensures.program c.in-Ok-decide_alone.ensures.done c.in-Ok-decide_alone.ensures.finished

pub returns-in-Err-decide_alone-clause-refused : goal.returns-in-Err-decide_alone-clause-refused
returns-in-Err-decide_alone-clause-refused g c = λ extent. wide_set_of extent c.args.plant.now c.in-Ok.program c.in-Err-decide_alone.error c.in-Ok.ensures.program c.in-Err-decide_alone.ensures.refused

pub returns-in-Err-clause-refused : goal.returns-in-Err-clause-refused
returns-in-Err-clause-refused g c = λ extent. program_refused extent c.args.plant.now c.in-Err.error c.in-Err.ensures.cause

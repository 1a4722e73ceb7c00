use Rattle.mpc_claim.proofs.NextCandidates.{candidate_rows, candidate_few}
use Rattle.mpc_claim.proofs.AnswerTheorems.{answer_laws}
use Rattle.mpc_claim.proofs.theorems.claim_theorems.Goals as goal

pub returns-clause-candidates : goal.returns-clause-candidates
returns-clause-candidates c = record { rows = candidate_rows; few = candidate_few }

pub returns-clause-answers : goal.returns-clause-answers
returns-clause-answers c = answer_laws

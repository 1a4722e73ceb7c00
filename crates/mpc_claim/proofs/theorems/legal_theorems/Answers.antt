use Rattle.mpc_claim.proofs.Histories.{claimed_sets-append, ended_sets-append, has_drop-append, IsLegal-push, IsLegal-last, legal_nothing, no_set_claimed_twice, claimed_is_candidate, ended_was_claimed, claim_event, contains_claimed}
use Rattle.mpc_claim.proofs.Counts.{few_claims}
use Rattle.mpc_claim.proofs.AnswerTheorems.{right_tags}
use Rattle.mpc_claim.proofs.OpenClaims.{open_list}
use Rattle.mpc_claim.proofs.theorems.legal_theorems.Goals as goal

pub returns-clause-legal : goal.returns-clause-legal
returns-clause-legal c = record { nothing = legal_nothing; more = IsLegal-push; last = IsLegal-last; right_tags = right_tags }

pub returns-clause-claims : goal.returns-clause-claims
returns-clause-claims c = record {
  once = no_set_claimed_twice;
  candidates = λ qp past s legal. claimed_is_candidate qp past s legal;
  ended = λ qp past s legal. ended_was_claimed qp past s legal;
  few = few_claims c.count_theorems.ensures.six_of_sixty;
  by_worker = claim_event;
  claims = contains_claimed;
}

pub returns-clause-open_list : goal.returns-clause-open_list
returns-clause-open_list c = open_list

pub returns-clause-appended : goal.returns-clause-appended
returns-clause-appended c = record { claimed = claimed_sets-append; ended = ended_sets-append; dropped = has_drop-append }

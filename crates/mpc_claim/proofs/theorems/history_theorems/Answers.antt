use Rattle.mpc_claim.proofs.Histories.{IsLegal-front}
use Rattle.mpc_claim.proofs.HistoryTheorems.{open_claims, finished_is_last, counted_tickets, standing_tickets}
use Rattle.mpc_claim.proofs.AnswerTheorems.{ends_wide_is_last, ended_is_whole}
use Rattle.mpc_claim.proofs.theorems.history_theorems.Goals as goal

pub returns-clause-open_claims : goal.returns-clause-open_claims
returns-clause-open_claims c = open_claims

pub returns-clause-legal_beginnings : goal.returns-clause-legal_beginnings
returns-clause-legal_beginnings c = IsLegal-front

pub returns-clause-finished_is_last : goal.returns-clause-finished_is_last
returns-clause-finished_is_last c = finished_is_last

pub returns-clause-counted_tickets : goal.returns-clause-counted_tickets
returns-clause-counted_tickets c = counted_tickets

pub returns-clause-standing_tickets : goal.returns-clause-standing_tickets
returns-clause-standing_tickets c = standing_tickets

pub returns-clause-ends_wide_is_last : goal.returns-clause-ends_wide_is_last
returns-clause-ends_wide_is_last c = ends_wide_is_last

pub returns-clause-ended_is_whole : goal.returns-clause-ended_is_whole
returns-clause-ended_is_whole c = ended_is_whole

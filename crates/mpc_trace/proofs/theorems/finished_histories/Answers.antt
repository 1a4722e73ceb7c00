use Rattle.mpc_trace.proofs.HistoryLemmas.{each_claimed, each_delivered}
use Rattle.mpc_trace.proofs.theorems.finished_histories.Goals as goal

pub returns : goal.returns
returns c = record {
  claimed = each_claimed c.legal_theorems.ensures.legal c.legal_theorems.ensures.claims c.legal_theorems.ensures.appended c.history_theorems.ensures.legal_beginnings;
  delivered = each_delivered c.legal_theorems.ensures.legal c.legal_theorems.ensures.claims c.legal_theorems.ensures.appended c.history_theorems.ensures.legal_beginnings;
}

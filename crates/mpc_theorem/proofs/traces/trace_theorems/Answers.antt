use Rattle.mpc_theorem.proofs.TextLemmas.{trace_text, text_trace}
use Rattle.mpc_theorem.proofs.traces.trace_theorems.Goals as goal

pub returns-clause-text : goal.returns-clause-text
returns-clause-text c = trace_text c.legal_theorems.ensures.legal c.legal_theorems.ensures.claims c.legal_theorems.ensures.appended c.history_theorems.ensures.legal_beginnings

pub returns-clause-trace : goal.returns-clause-trace
returns-clause-trace c =
    text_trace c.legal_theorems.ensures.legal c.legal_theorems.ensures.claims c.legal_theorems.ensures.appended c.law_theorems.ensures.law_unique c.one_program.ensures c.pivot_theorems.ensures.definite c.finished_histories.ensures

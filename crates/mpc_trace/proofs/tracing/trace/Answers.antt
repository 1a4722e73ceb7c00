use Rattle.mpc_trace.proofs.TraceLemmas.{traced}
use Rattle.mpc_trace.proofs.tracing.trace.Goals as goal

pub returns-clause-trace : goal.returns-clause-trace
returns-clause-trace c =
    traced c.legal_theorems.ensures.legal c.legal_theorems.ensures.claims c.legal_theorems.ensures.appended c.history_theorems.ensures.legal_beginnings
    c.args.registry.now c.history.result.now c.in_ok-text.text.items c.history.ensures.value c.in_ok-text.ensures

use Rattle.mpc_recur.proofs.ExactLemmas.{safe_is_answered, safe_is_decided}
use Rattle.mpc_recur.proofs.theorems.safe_is_answered.Goals as goal

pub returns-clause-answered : goal.returns-clause-answered
returns-clause-answered c = safe_is_answered

pub returns-clause-decided : goal.returns-clause-decided
returns-clause-decided c = safe_is_decided c.one_outcome.ensures c.ruled_out_where_safe.ensures.ruled_out

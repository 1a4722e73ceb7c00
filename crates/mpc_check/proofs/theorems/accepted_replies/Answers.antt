use Rattle.mpc_check.proofs.Accepted.{accepted_is_right}
use Rattle.mpc_check.proofs.theorems.accepted_replies.Goals as goal

pub returns : goal.returns
returns c = accepted_is_right c.system_theorems.ensures.refuted_has_no_point c.cell_theorems.ensures c.region_theorems.ensures.size_in_box c.law_theorems.ensures.law_row_size c.best_replies.ensures.law c.best_replies.ensures.infeasible

use Rattle.mpc_rows.proofs.RefutedLemmas.{tested-no_point, tested-no_pair_point}
use Rattle.mpc_rows.proofs.refuting.refutes.Goals as goal

pub returns-clause-no_point : goal.returns-clause-no_point
returns-clause-no_point c = tested-no_point _ _ _ _ c.system.view_is c.system.invariant c.requires c.is_refutation.result c.is_refutation.ensures.answer

pub returns-clause-no_pair_point : goal.returns-clause-no_pair_point
returns-clause-no_pair_point c = tested-no_pair_point _ _ _ _ c.system.view_is c.system.invariant c.requires c.is_refutation.result c.is_refutation.ensures.answer

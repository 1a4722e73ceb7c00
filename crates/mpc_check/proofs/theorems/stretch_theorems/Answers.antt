use Rattle.mpc_check.specs.LeafConditions.{NodeAtMet, NodeAtFinds}
use Rattle.mpc_check.proofs.StretchLemmas.{both_met, first_found}
use Rattle.mpc_check.proofs.theorems.stretch_theorems.Goals as goal

pub returns-clause-met : goal.returns-clause-met
returns-clause-met c = λ qp laws nodes. both_met (NodeAtMet qp laws nodes) (NodeAtFinds qp laws nodes)

pub returns-clause-finds : goal.returns-clause-finds
returns-clause-finds c = λ qp laws nodes. first_found (NodeAtMet qp laws nodes) (NodeAtFinds qp laws nodes)

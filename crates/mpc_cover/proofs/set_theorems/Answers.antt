use Rattle.mpc_cover.proofs.Laws.{few_members, law_of, set-law_of, is_law_of, same_moves, same_mults}
use Rattle.mpc_cover.proofs.set_theorems.Goals as goal

pub returns-clause-few : goal.returns-clause-few
returns-clause-few c = few_members

pub returns-clause-has_law : goal.returns-clause-has_law
returns-clause-has_law c = λ qp s definite rows independent. (law_of qp definite s independent, set-law_of qp definite s independent, is_law_of qp definite s independent rows)

pub returns-clause-same_moves : goal.returns-clause-same_moves
returns-clause-same_moves c = same_moves

pub returns-clause-same_multipliers : goal.returns-clause-same_multipliers
returns-clause-same_multipliers c = same_mults

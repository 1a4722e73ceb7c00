use Rattle.mpc_exact.proofs.Denominator.{over_multiple, whole_at_multiple, multiple_of_whole, common_denom-positive, common_denom_is, common_denom_least}
use Rattle.mpc_exact.proofs.denominator_theorems.Goals as goal

pub returns-clause-over_a_multiple : goal.returns-clause-over_a_multiple
returns-clause-over_a_multiple c = over_multiple

pub returns-clause-at_a_multiple : goal.returns-clause-at_a_multiple
returns-clause-at_a_multiple c = whole_at_multiple

pub returns-clause-only_at_a_multiple : goal.returns-clause-only_at_a_multiple
returns-clause-only_at_a_multiple c = multiple_of_whole

pub returns-clause-positive : goal.returns-clause-positive
returns-clause-positive c = common_denom-positive

pub returns-clause-common : goal.returns-clause-common
returns-clause-common c = common_denom_is

pub returns-clause-least : goal.returns-clause-least
returns-clause-least c = common_denom_least

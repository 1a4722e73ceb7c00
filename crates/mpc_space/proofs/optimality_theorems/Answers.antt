use Rattle.mpc_space.proofs.Optimality.{stationary_least, stationary_unique, kernel_point, kernel_factors}
use Rattle.mpc_space.proofs.optimality_theorems.Goals as goal

pub returns-clause-least : goal.returns-clause-least
returns-clause-least c = stationary_least

pub returns-clause-unique : goal.returns-clause-unique
returns-clause-unique c = stationary_unique

pub returns-clause-regular : goal.returns-clause-regular
returns-clause-regular c = λ h g x l above below d e i k. (kernel_point h g x l above below d e, kernel_factors h g x l above below d e i k)

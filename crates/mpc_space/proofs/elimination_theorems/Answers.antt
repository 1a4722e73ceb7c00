use Rattle.mpc_space.proofs.Elimination.{solution-scaled, solution-unscaled, solution-added, solution-unadded}
use Rattle.mpc_space.proofs.elimination_theorems.Goals as goal

pub returns-clause-scaled : goal.returns-clause-scaled
returns-clause-scaled c = λ rows rhs xs i k l some. (solution-scaled rows rhs xs i k, solution-unscaled rows rhs xs i k l some)

pub returns-clause-added : goal.returns-clause-added
returns-clause-added c = λ rows rhs xs i j k l apart. (solution-added rows rhs xs i j k, solution-unadded rows rhs xs i j k l apart)

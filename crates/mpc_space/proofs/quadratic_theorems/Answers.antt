use Rattle.mpc_space.proofs.Quadratic.{quadratic-add, quadratic-sub, quadratic-scale}
use Rattle.mpc_space.proofs.quadratic_theorems.Goals as goal

pub returns-clause-sums : goal.returns-clause-sums
returns-clause-sums c = quadratic-add

pub returns-clause-differences : goal.returns-clause-differences
returns-clause-differences c = quadratic-sub

pub returns-clause-multiples : goal.returns-clause-multiples
returns-clause-multiples c = quadratic-scale

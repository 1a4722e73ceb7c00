use Rattle.std.proofs.Common.{arith}
use Rattle.mpc_rows.specs.Run.{last_position}
use Rattle.mpc_runs.proofs.Cycle.{no_basis_twice}
use Rattle.mpc_runs.proofs.Ends.{run_ends, steps_few}
use Rattle.mpc_simplex.proofs.theorems.run_theorems.Goals as goal

pub returns-clause-no_basis_twice : goal.returns-clause-no_basis_twice
returns-clause-no_basis_twice c = λ s i j below within. no_basis_twice s i j below (λ k h. (run_ends s).goes k (omega arith))

pub returns-clause-goes_on : goal.returns-clause-goes_on
returns-clause-goes_on c = λ s k h. (run_ends s).goes k h

pub returns-clause-stops : goal.returns-clause-stops
unfolding last_position
returns-clause-stops c = λ s. (run_ends s).stops

pub returns-clause-few_steps : goal.returns-clause-few_steps
returns-clause-few_steps c = steps_few

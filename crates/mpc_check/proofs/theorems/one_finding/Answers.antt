use Rattle.mpc_check.proofs.OneFinding.{no_program_finding, nothing_found, one_finding}
use Rattle.mpc_check.proofs.theorems.one_finding.Goals as goal

pub returns-clause-accepted : goal.returns-clause-accepted
returns-clause-accepted c = nothing_found c.one_path.ensures c.one_program.ensures c.one_program_outcome.ensures

pub returns-clause-program : goal.returns-clause-program
returns-clause-program c = no_program_finding c.one_path.ensures c.one_program.ensures c.one_program_outcome.ensures

pub returns-clause-one : goal.returns-clause-one
returns-clause-one c = one_finding c.one_path.ensures c.one_program.ensures c.one_program_outcome.ensures

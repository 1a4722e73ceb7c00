use Rattle.mpc_states.proofs.RightPrograms.{program_is_right, robust_program_is_right}
use Rattle.mpc_states.proofs.theorems.right_programs.Goals as goal

pub returns-clause-plain : goal.returns-clause-plain
returns-clause-plain c = program_is_right c.program_theorems.ensures.sequences

pub returns-clause-robust : goal.returns-clause-robust
returns-clause-robust c = robust_program_is_right

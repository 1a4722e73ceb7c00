use Rattle.mpc_sweep.proofs.Unswept.{row_is_reduced}
use Rattle.mpc_sweep.proofs.Parts.{part_is_solved, part_is_dependent}
use Rattle.mpc_sweep.proofs.SweptOnce.{pivots_there, all_fit}
use Rattle.mpc_sweep.proofs.theorems.sweep_theorems.Goals as goal

pub returns-clause-solved : goal.returns-clause-solved
returns-clause-solved c = part_is_solved c.elimination_theorems.ensures

pub returns-clause-dependent : goal.returns-clause-dependent
returns-clause-dependent c = part_is_dependent c.elimination_theorems.ensures

pub returns-clause-reduced : goal.returns-clause-reduced
returns-clause-reduced c = row_is_reduced

pub returns-clause-next : goal.returns-clause-next
returns-clause-next c = λ t ps rows columns from first p s h p_row p_column at behind above pivot. (
  pivots_there s p first pivot t ps rows columns from h p_row p_column at behind above,
  all_fit s p first pivot t ps rows columns from h p_row p_column at behind above c.over_theorems.ensures,
)

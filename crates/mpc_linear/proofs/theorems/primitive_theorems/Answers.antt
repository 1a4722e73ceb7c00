use Rattle.mpc_linear.proofs.PrimitiveRows.{one_primitive_row, small_primitive_row}
use Rattle.mpc_linear.proofs.theorems.primitive_theorems.Goals as goal

pub returns-clause-one : goal.returns-clause-one
returns-clause-one c = one_primitive_row

pub returns-clause-small : goal.returns-clause-small
returns-clause-small c = small_primitive_row

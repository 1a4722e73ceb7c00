use Rattle.mpc_exact.proofs.Rational.{+ℚ_comm, +ℚ_assoc, +ℚ_zero, +ℚ_neg, *ℚ_comm, *ℚ_assoc, *ℚ_one, *ℚ_inv, *ℚ-+ℚ}
use Rattle.mpc_exact.proofs.OrderTheorems.{one-not_zero}
use Rattle.mpc_exact.proofs.field_theorems.Goals as goal

pub returns-clause-add_commutes : goal.returns-clause-add_commutes
returns-clause-add_commutes c = +ℚ_comm

pub returns-clause-add_associates : goal.returns-clause-add_associates
returns-clause-add_associates c = +ℚ_assoc

pub returns-clause-zero_added : goal.returns-clause-zero_added
returns-clause-zero_added c = +ℚ_zero

pub returns-clause-negative_added : goal.returns-clause-negative_added
returns-clause-negative_added c = +ℚ_neg

pub returns-clause-multiply_commutes : goal.returns-clause-multiply_commutes
returns-clause-multiply_commutes c = *ℚ_comm

pub returns-clause-multiply_associates : goal.returns-clause-multiply_associates
returns-clause-multiply_associates c = *ℚ_assoc

pub returns-clause-multiplied_by_one : goal.returns-clause-multiplied_by_one
returns-clause-multiplied_by_one c = *ℚ_one

pub returns-clause-multiplied_by_inverse : goal.returns-clause-multiplied_by_inverse
returns-clause-multiplied_by_inverse c = *ℚ_inv

pub returns-clause-distributes : goal.returns-clause-distributes
returns-clause-distributes c = *ℚ-+ℚ

pub returns-clause-one_is_not_zero : goal.returns-clause-one_is_not_zero
returns-clause-one_is_not_zero c = one-not_zero

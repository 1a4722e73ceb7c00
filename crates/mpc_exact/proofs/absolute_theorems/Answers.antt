use Rattle.mpc_exact.proofs.RationalOrder.{≤ℚ_trans}
use Rattle.mpc_exact.proofs.Absolute.{abs-same, abs-negated, abs-add, abs-mul, min_below_left, min_below_right, min_greatest, max_above_left, max_above_right, max_least}
use Rattle.mpc_exact.proofs.absolute_theorems.Goals as goal

pub returns-clause-of_nonnegative : goal.returns-clause-of_nonnegative
returns-clause-of_nonnegative c = abs-same

pub returns-clause-of_others : goal.returns-clause-of_others
returns-clause-of_others c = abs-negated

pub returns-clause-triangle : goal.returns-clause-triangle
returns-clause-triangle c = abs-add

pub returns-clause-product : goal.returns-clause-product
returns-clause-product c = abs-mul

pub returns-clause-lesser : goal.returns-clause-lesser
returns-clause-lesser c = λ x y z. (λ h. (≤ℚ_trans h (min_below_left x y), ≤ℚ_trans h (min_below_right x y)), λ h. min_greatest x y z h.0 h.1)

pub returns-clause-greater : goal.returns-clause-greater
returns-clause-greater c = λ x y z. (λ h. (≤ℚ_trans (max_above_left x y) h, ≤ℚ_trans (max_above_right x y) h), λ h. max_least x y z h.0 h.1)

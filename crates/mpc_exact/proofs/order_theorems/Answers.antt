use Rattle.mpc_exact.proofs.RationalOrder.{≤ℚ_trans, ≤ℚ_antisymm, ≤ℚ_of_<, +ℚ-≤ℚ, nonneg-mul, positive-mul}
use Rattle.mpc_exact.proofs.OrderTheorems.{<ℚ-not-≡, <ℚ_of_≢}
use Rattle.mpc_exact.proofs.order_theorems.Goals as goal

pub returns-clause-transitive : goal.returns-clause-transitive
returns-clause-transitive c = λ x y z h k. ≤ℚ_trans h k

pub returns-clause-antisymmetric : goal.returns-clause-antisymmetric
returns-clause-antisymmetric c = λ x y h k. ≤ℚ_antisymm h k

pub returns-clause-strict : goal.returns-clause-strict
returns-clause-strict c = λ x y. (λ h. (≤ℚ_of_< h, <ℚ-not-≡ h), λ h. <ℚ_of_≢ h.0 h.1)

pub returns-clause-sums : goal.returns-clause-sums
returns-clause-sums c = λ x y z w h k. +ℚ-≤ℚ h k

pub returns-clause-products : goal.returns-clause-products
returns-clause-products c = λ x y h k. nonneg-mul h k

pub returns-clause-positive_products : goal.returns-clause-positive_products
returns-clause-positive_products c = λ x y h k. positive-mul h k

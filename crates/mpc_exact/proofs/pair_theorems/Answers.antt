use Rattle.mpc_exact.proofs.Pair.{at_most_trans, at_most_antisymm, at_most-or-below, at_most-not-below, at_most-add, at_most-scale}
use Rattle.mpc_exact.proofs.pair_theorems.Goals as goal

pub returns-clause-transitive : goal.returns-clause-transitive
returns-clause-transitive c = λ p q r h k. at_most_trans h k

pub returns-clause-antisymmetric : goal.returns-clause-antisymmetric
returns-clause-antisymmetric c = λ p q h k. at_most_antisymm h k

pub returns-clause-total : goal.returns-clause-total
returns-clause-total c = at_most-or-below

pub returns-clause-not_both : goal.returns-clause-not_both
returns-clause-not_both c = λ p q h k. at_most-not-below h k

pub returns-clause-sums : goal.returns-clause-sums
returns-clause-sums c = λ p q r s h k. at_most-add h k

pub returns-clause-products : goal.returns-clause-products
returns-clause-products c = λ k p q h l. at_most-scale h l

use Rattle.mpc_space.proofs.Definite.{definite_by_pivot, pivot_of_definite, schur_of_definite, symmetric_inner, symmetric_schur, bordered_form}
use Rattle.mpc_space.proofs.definite_theorems.Goals as goal

pub returns-clause-by_pivot : goal.returns-clause-by_pivot
returns-clause-by_pivot c = λ a b m e. (λ d. (pivot_of_definite a b m e d, schur_of_definite a b m e d), λ h. definite_by_pivot a b m e h.0 h.1)

pub returns-clause-any_symmetric_matrix : goal.returns-clause-any_symmetric_matrix
returns-clause-any_symmetric_matrix c = bordered_form

pub returns-clause-stays_symmetric : goal.returns-clause-stays_symmetric
returns-clause-stays_symmetric c = λ a b m s. symmetric_schur a b m (symmetric_inner a b m s)

use Rattle.mpc_check.proofs.LawEquations.{law_by_coefficients}
use Rattle.mpc_check.proofs.LawForms.{stationary_at, active_at}
use Rattle.mpc_check.proofs.theorems.law_conditions.Goals as goal

pub returns-clause-stationary : goal.returns-clause-stationary
returns-clause-stationary c = stationary_at c.law_theorems.ensures.same_coefficients

pub returns-clause-active : goal.returns-clause-active
returns-clause-active c = active_at c.law_theorems.ensures.same_coefficients

pub returns-clause-of_set : goal.returns-clause-of_set
returns-clause-of_set c = law_by_coefficients

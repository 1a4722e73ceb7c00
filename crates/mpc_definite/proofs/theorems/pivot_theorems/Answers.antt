use Rattle.mpc_definite.proofs.Forms.{definite_of, not_definite_of}
use Rattle.mpc_definite.proofs.theorems.pivot_theorems.Goals as goal

pub returns-clause-definite : goal.returns-clause-definite
returns-clause-definite c = definite_of

pub returns-clause-not_definite : goal.returns-clause-not_definite
returns-clause-not_definite c = λ h j s l positive here. not_definite_of h s j l positive here

use Rattle.mpc_theorem.proofs.CheckRefusals.{finds_not_definite, finds_too_wide}
use Rattle.mpc_theorem.proofs.refusals.check_refusals.Goals as goal

pub returns-clause-not_definite : goal.returns-clause-not_definite
returns-clause-not_definite c = finds_not_definite

pub returns-clause-too_wide : goal.returns-clause-too_wide
returns-clause-too_wide c = finds_too_wide c.place_theorems.ensures.rows

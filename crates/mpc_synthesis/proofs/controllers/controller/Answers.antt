use Rattle.mpc_synthesis.specs.Refusals.{controller}
use Rattle.mpc_synthesis.proofs.controllers.controller.Goals as goal

pub returns-in-Err-clause-refused : goal.returns-in-Err-clause-refused
returns-in-Err-clause-refused g c = c.in-Err.ensures.refused controller

use Rattle.mpc_condense.proofs.OneOutcome.{one_outcome}
use Rattle.mpc_condense.proofs.convex.one_program_outcome.Goals as goal

pub returns : goal.returns
returns c = one_outcome c.place_theorems.ensures.one c.place_theorems.ensures.none c.one_program.ensures

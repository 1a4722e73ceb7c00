use Rattle.mpc_theorem.proofs.StateRefusals.{solves_too_wide, tightens_wide_row}
use Rattle.mpc_theorem.proofs.refusals.state_refusals.Goals as goal

pub returns-clause-too_wide : goal.returns-clause-too_wide
returns-clause-too_wide c = solves_too_wide c.place_theorems.ensures.rows

pub returns-clause-row : goal.returns-clause-row
returns-clause-row c = tightens_wide_row c.place_theorems.ensures.rows

use Rattle.mpc_condense.proofs.WidePlaces.{no_wide_place, one_wide_place, rows_within}
use Rattle.mpc_condense.proofs.theorems.place_theorems.Goals as goal

pub returns-clause-none : goal.returns-clause-none
returns-clause-none c = no_wide_place

pub returns-clause-one : goal.returns-clause-one
returns-clause-one c = one_wide_place

pub returns-clause-rows : goal.returns-clause-rows
returns-clause-rows c = rows_within

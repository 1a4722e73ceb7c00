use Rattle.mpc_cover.proofs.Minimum.{cheapest_choice, single_choice, cheapest_by_multipliers, cheapest_in_region, regions_agree}
use Rattle.mpc_cover.proofs.cheapest_theorems.Goals as goal

pub returns-clause-exists : goal.returns-clause-exists
returns-clause-exists c = cheapest_choice

pub returns-clause-single : goal.returns-clause-single
returns-clause-single c = single_choice

pub returns-clause-by_multipliers : goal.returns-clause-by_multipliers
returns-clause-by_multipliers c = cheapest_by_multipliers

pub returns-clause-in_its_region : goal.returns-clause-in_its_region
returns-clause-in_its_region c = cheapest_in_region

pub returns-clause-agree : goal.returns-clause-agree
returns-clause-agree c = regions_agree

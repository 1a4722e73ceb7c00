use Rattle.mpc_cover.proofs.Cover.{covered, covered_by_table}
use Rattle.mpc_cover.proofs.cover_theorems.Goals as goal

pub returns-clause-covered : goal.returns-clause-covered
returns-clause-covered c = covered

pub returns-clause-of_every_table : goal.returns-clause-of_every_table
returns-clause-of_every_table c = covered_by_table

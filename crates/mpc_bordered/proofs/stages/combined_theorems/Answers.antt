use Rattle.mpc_bordered.proofs.Combined.{only, fits}
use Rattle.mpc_bordered.proofs.stages.combined_theorems.Goals as goal

pub returns : goal.returns
returns c k f columns z m rhs x is forms changes = (only c.elimination_theorems.ensures k f columns z m rhs x is forms changes, fits c.elimination_theorems.ensures k f columns z m rhs x is forms changes)

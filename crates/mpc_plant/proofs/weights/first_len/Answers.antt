use Rattle.serde_json.specs.View.{view}
use Rattle.mpc_plant.proofs.MatrixLemmas.{width_at}
use Rattle.mpc_plant.proofs.weights.first_len.Goals as goal

pub returns-clause-ok : goal.returns-clause-ok
returns-clause-ok c = width_at (view c.args.value.now) c.in_ok-entries.entries.now c.in_ok-entries.ensures.ok

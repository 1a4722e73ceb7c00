use Rattle.mpc_trace.proofs.PlantLemmas.{one_plant}
use Rattle.mpc_trace.proofs.DrillLemmas.{one_drill_outcome}
use Rattle.mpc_trace.proofs.theorems.one_drill.Goals as goal

pub returns : goal.returns
returns c = record { plant = one_plant; outcome = one_drill_outcome c.one_outcome.ensures }

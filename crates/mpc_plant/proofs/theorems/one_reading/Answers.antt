use Rattle.mpc_plant.proofs.OneReading.{one_reading}
use Rattle.mpc_plant.proofs.theorems.one_reading.Goals as goal

pub returns : goal.returns
returns c = one_reading

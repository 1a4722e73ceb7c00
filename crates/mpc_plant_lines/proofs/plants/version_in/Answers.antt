use Rattle.std.proofs.Common.{arith}
use Rattle.mpc_plant_lines.proofs.PlantShapes.{version_found}
use Rattle.mpc_plant_lines.proofs.plants.version_in.Goals as goal

pub returns-in-Small : goal.returns-in-Small
returns-in-Small c =
    version_found c.one_number.ensures.count c.args.text.now c.in-Small.number c.in-Small.ensures.count (omega (arith, c.in-Small.ensures.number.1)) c.version_with.result c.version_with.ensures

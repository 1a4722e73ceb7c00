use Rattle.mpc_plant_lines.proofs.PlantTexts.{told_offsets}
use Rattle.mpc_plant_lines.proofs.plant_lines.read_offsets.Goals as goal

pub returns-in-Two : goal.returns-in-Two
returns-in-Two c = told_offsets c.args.sizes.now c.args.lines.now c.read_offset_lines.new.lines c.args.version c.read_offset_lines.result c.in-Two.is c.read_offset_lines.ensures

use Rattle.mpc_grammar.specs.PlantGrammar.{plant}
use Rattle.mpc_grammar.specs.FileGrammar.{behind_plant}
use Rattle.mpc_grammar.specs.Outcomes.{then_outcome}
use Rattle.mpc_file.proofs.reading.read_in_version.Goals as goal

pub returns : goal.returns
returns c = then_outcome (plant c.args.version) (behind_plant c.args.version) c.args.lines.now c.read_plant_lines.new.lines c.read_behind_plant.new.lines c.in_ok-plant.plant c.read_behind_plant.result c.in_ok-plant.ensures c.read_behind_plant.ensures

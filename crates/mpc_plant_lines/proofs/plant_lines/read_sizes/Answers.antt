use Rattle.mpc_grammar.specs.PlantGrammar.{AreSizes}
use Rattle.mpc_grammar.specs.Outcomes.{line_stated}
use Rattle.mpc_plant_lines.proofs.plant_lines.read_sizes.Goals as goal

pub returns : goal.returns
returns c = line_stated AreSizes c.sizes_in.result c.stated.result c.number-number.result c.in_ok-line.ensures.taken c.number-number.ensures c.sizes_in.ensures c.stated.ensures

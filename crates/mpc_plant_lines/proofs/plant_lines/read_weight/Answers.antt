use Rattle.mpc_grammar.specs.PlantGrammar.{IsWeightLine}
use Rattle.mpc_grammar.specs.Outcomes.{line_stated}
use Rattle.mpc_plant_lines.proofs.plant_lines.read_weight.Goals as goal

pub returns : goal.returns
returns c = line_stated (IsWeightLine c.args.name.now c.args.size) c.weight_in.result c.stated.result c.number-number.result c.in_ok-line.ensures.taken c.number-number.ensures c.weight_in.ensures c.stated.ensures

use Rattle.mpc_grammar.specs.PlantGrammar.{IsAxis}
use Rattle.mpc_grammar.specs.Outcomes.{line_stated}
use Rattle.mpc_plant_lines.proofs.limit_lines.read_axis.Goals as goal

pub returns : goal.returns
returns c = line_stated IsAxis c.axis_in.result c.stated.result c.number-number.result c.in_ok-line.ensures.taken c.number-number.ensures c.axis_in.ensures c.stated.ensures

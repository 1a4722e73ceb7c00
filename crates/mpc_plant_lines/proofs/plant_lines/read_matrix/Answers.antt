use Rattle.mpc_grammar.specs.PlantGrammar.{IsMatrix}
use Rattle.mpc_grammar.specs.Outcomes.{line_stated}
use Rattle.mpc_plant_lines.proofs.plant_lines.read_matrix.Goals as goal

pub returns : goal.returns
returns c = line_stated (IsMatrix c.args.name.now c.args.rows c.args.columns) c.matrix_in.result c.stated.result c.number-number.result c.in_ok-line.ensures.taken c.number-number.ensures c.matrix_in.ensures c.stated.ensures

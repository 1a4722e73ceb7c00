use Rattle.mpc_grammar.specs.PlantGrammar.{IsRow}
use Rattle.mpc_grammar.specs.Outcomes.{line_stated}
use Rattle.mpc_plant_lines.proofs.limit_lines.read_row.Goals as goal

pub returns : goal.returns
returns c = line_stated (IsRow c.args.name.now c.args.states c.args.inputs) c.row_in.result c.stated.result c.number-number.result c.in_ok-line.ensures.taken c.number-number.ensures c.row_in.ensures c.stated.ensures

use Rattle.std.specs.Prelude.{codes}
use Rattle.mpc_grammar.specs.PlantGrammar.{AreNumbers}
use Rattle.mpc_grammar.specs.Outcomes.{line_stated}
use Rattle.mpc_plant_lines.proofs.plant_lines.read_drift.Goals as goal

pub returns : goal.returns
returns c = line_stated (AreNumbers (codes "drift") c.args.states) c.numbers_in.result c.stated.result c.number-number.result c.in_ok-line.ensures.taken c.number-number.ensures c.numbers_in.ensures c.stated.ensures

use Rattle.mpc_grammar.specs.PlantGrammar.{IsGoal}
use Rattle.mpc_grammar.specs.Outcomes.{line_stated}
use Rattle.mpc_plant_lines.proofs.plant_lines.read_goal.Goals as goal

pub returns : goal.returns
returns c = line_stated (IsGoal c.args.version c.args.sizes.now c.args.drift.now) c.goal_in.result c.stated.result c.number-number.result c.in_ok-line.ensures.taken c.number-number.ensures c.goal_in.ensures c.stated.ensures

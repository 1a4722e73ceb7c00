use Rattle.mpc_plant_lines.proofs.PlantTexts.{not_allowed}
use Rattle.mpc_grammar.specs.Outcomes.{at_some}
use Rattle.mpc_plant_lines.proofs.plant_lines.goal_in.Goals as goal

pub returns-then-not-are_allowed : goal.returns-then-not-are_allowed
returns-then-not-are_allowed c =
    not_allowed c.one_fractions.ensures c.args.version c.args.sizes.now c.args.drift.now c.args.text.now c.in-Some.goal (at_some _ _ c.in_ok-goal.field-0 c.in-Some.goal c.in-Some.is c.in_ok-goal.ensures) c.if-not-are_allowed.ensures

use Rattle.mpc_plant_lines.proofs.PlantTexts.{not_symmetric}
use Rattle.mpc_grammar.specs.Outcomes.{at_some}
use Rattle.mpc_plant_lines.proofs.plant_lines.weight_in.Goals as goal

pub returns-then-not-is_symmetric : goal.returns-then-not-is_symmetric
returns-then-not-is_symmetric c =
    not_symmetric c.args.name.now c.args.text.now c.args.size c.one_fractions.ensures c.in-Some.matrix (at_some _ _ c.in_ok-matrix.field-0 c.in-Some.matrix c.in-Some.is c.in_ok-matrix.ensures) c.if-not-is_symmetric.ensures

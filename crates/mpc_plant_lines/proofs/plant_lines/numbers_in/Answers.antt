use Rattle.std.proofs.Common.{◌∙◌}
use Rattle.mpc_plant_lines.proofs.PlantTexts.{other_size, some_fractions}
use Rattle.mpc_plant_lines.proofs.plant_lines.numbers_in.Goals as goal

pub returns-then-len-count : goal.returns-then-len-count
returns-then-len-count c =
    other_size c.one_fractions.ensures c.args.name.now c.args.text.now c.args.count c.in-Some.numbers (some_fractions c.args.name.now c.args.text.now c.in_ok-numbers.field-0 c.in-Some.numbers c.in-Some.is c.in_ok-numbers.ensures) (λ e. c.if-len-count.true (c.len.ensures ∙ e))

use Rattle.mpc_plant_lines.proofs.PlantTexts.{last_fails}
use Rattle.mpc_plant_lines.proofs.plant_lines.read_weights.Goals as goal

pub returns-in_err-last : goal.returns-in_err-last
returns-in_err-last c =
    last_fails c.args.sizes.now c.args.lines.now c.read_weight.new.lines c.read_weight-2.new.lines c.read_weight-3.new.lines c.in_ok-of_state.of_state c.in_ok-of_input.of_input c.from_residual-in_err-last.result c.in_err-last.field-0.0 c.in_ok-of_state.ensures c.in_ok-of_input.ensures
    c.in_err-last.ensures c.from_residual-in_err-last.ensures.1

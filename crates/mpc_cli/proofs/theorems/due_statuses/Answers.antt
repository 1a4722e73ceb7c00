use Rattle.mpc_cli.proofs.DueCauses.{due_is_what_comes}
use Rattle.mpc_cli.proofs.theorems.due_statuses.Goals as goal

pub returns : goal.returns
returns c =
    due_is_what_comes c.plant_texts.ensures.read c.plant_texts.ensures.faults c.plant_refusals.ensures.not_definite c.plant_refusals.ensures.too_wide c.check_refusals.ensures.not_definite c.check_refusals.ensures.too_wide c.state_refusals.ensures.too_wide c.state_refusals.ensures.row

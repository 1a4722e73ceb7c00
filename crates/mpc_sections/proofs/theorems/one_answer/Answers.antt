use Rattle.mpc_sections.proofs.OneAnswer.{one_alone, one_text, one_fleet_outcome}
use Rattle.mpc_sections.proofs.theorems.one_answer.Goals as goal

pub returns-clause-alone : goal.returns-clause-alone
returns-clause-alone c = one_alone c.one_reading.ensures c.one_outcome.ensures c.one_controller.ensures c.one_text.ensures

pub returns-clause-text : goal.returns-clause-text
returns-clause-text c = one_text c.one_reading.ensures c.one_outcome.ensures c.one_controller.ensures c.one_text.ensures

pub returns-clause-outcome : goal.returns-clause-outcome
returns-clause-outcome c = one_fleet_outcome c.one_reading.ensures c.one_outcome.ensures c.one_controller.ensures c.one_text.ensures

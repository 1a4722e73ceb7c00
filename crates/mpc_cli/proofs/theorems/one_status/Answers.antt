use Rattle.mpc_cli.proofs.DueStatus.{due_unique, done_due, refuses_nothing}
use Rattle.mpc_cli.proofs.theorems.one_status.Goals as goal

pub returns-clause-one : goal.returns-clause-one
returns-clause-one c = due_unique c.whole_line_theorems.ensures.short c.due_statuses.ensures c.one_reading.ensures c.one_outcome.ensures c.one_file_answer.ensures.reading c.one_file_answer.ensures.outcome c.safe_file_theorems.ensures.one c.one_drill.ensures c.one_outcome-2.ensures.solve c.one_outcome-2.ensures.robust

pub returns-clause-passing : goal.returns-clause-passing
returns-clause-passing c = done_due

pub returns-clause-refuses_nothing : goal.returns-clause-refuses_nothing
returns-clause-refuses_nothing c = refuses_nothing c.whole_line_theorems.ensures.short c.due_statuses.ensures c.one_reading.ensures c.one_file_answer.ensures.reading c.one_file_answer.ensures.outcome c.safe_file_theorems.ensures.one c.one_drill.ensures c.complete_inputs.ensures.solve c.complete_inputs.ensures.robust

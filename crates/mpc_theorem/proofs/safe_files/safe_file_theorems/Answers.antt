use Rattle.mpc_theorem.proofs.SafeLemmas.{safe_forever, answer_due, due_found, one_due}
use Rattle.mpc_theorem.proofs.safe_files.safe_file_theorems.Goals as goal

pub returns-clause-due : goal.returns-clause-due
returns-clause-due c = due_found c.accepted_replies.ensures c.each_text.ensures.no_other c.ruled_out_where_safe.ensures.ruled_out c.ruled_out_where_safe.ensures.leads c.ruled_out_where_safe.ensures.not_safe

pub returns-clause-one : goal.returns-clause-one
returns-clause-one c =
    one_due c.accepted_replies.ensures c.each_text.ensures.no_other c.ruled_out_where_safe.ensures.ruled_out c.ruled_out_where_safe.ensures.leads c.ruled_out_where_safe.ensures.not_safe c.one_safety_answer.ensures.one

pub returns-clause-answered : goal.returns-clause-answered
returns-clause-answered c = answer_due c.accepted_replies.ensures

pub returns-clause-forever : goal.returns-clause-forever
returns-clause-forever c = safe_forever

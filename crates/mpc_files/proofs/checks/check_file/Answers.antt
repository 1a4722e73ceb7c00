use Rattle.mpc_files.proofs.CheckLemmas.{file_answer, cause_given}
use Rattle.mpc_files.proofs.checks.check_file.Goals as goal

pub returns-in_err-answer-clause-cause : goal.returns-in_err-answer-clause-cause
returns-in_err-answer-clause-cause g c =
    cause_given c.args.bytes.now c.in_ok-controller.controller c.in_ok-controller.ensures.ok c.from_residual-in_err-answer.result c.in_err-answer.field-0.0 c.in_err-answer.ensures.cause c.from_residual-in_err-answer.ensures.1

pub returns-clause-answer : goal.returns-clause-answer
returns-clause-answer g c =
    file_answer c.args.bytes.now c.in_ok-controller.controller c.in_ok-controller.ensures.ok c.replies_everywhere.ensures c.accepted_replies.ensures c.plant.ensures.controller c.in_ok-answer.answer c.in_ok-answer.ensures.answer

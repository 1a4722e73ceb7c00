use Rattle.mpc_files.proofs.FileLemmas.{file_answer, file_cause}
use Rattle.mpc_files.proofs.safety.safe_file.Goals as goal

pub returns-clause-answer : goal.returns-clause-answer
returns-clause-answer g c = file_answer c.args.bytes.now c.in_ok-controller.controller c.in_ok-controller.ensures.ok c.plant.ensures.controller c.test_controller.result c.test_controller.ensures.answer

pub returns-clause-cause : goal.returns-clause-cause
returns-clause-cause g c = file_cause c.args.bytes.now c.in_ok-controller.controller c.in_ok-controller.ensures.ok c.plant.ensures.controller c.test_controller.result c.test_controller.ensures.cause

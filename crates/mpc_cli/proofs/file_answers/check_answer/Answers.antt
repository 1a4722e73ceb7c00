use Rattle.std.proofs.Common.{ℕ, List}
use Rattle.std.specs.Prelude.{codes}
use Rattle.mpc_check.specs.Findings.{refused}
use Rattle.mpc_files.specs.FileAnswers.{IsFileCause}
use Rattle.mpc_files.specs.FileOutcomes.{finds}
use Rattle.mpc_status.specs.declared.status.Status.TheVariants.{Done, Refused}
use Rattle.mpc_cli.specs.declared.commands.Command.TheVariants.{OfFile}
use Rattle.mpc_cli.specs.declared.commands.FileCommand.TheVariants.{Check}
use Rattle.mpc_cli.specs.Outcomes.{IsAnswerTo}
use Rattle.mpc_cli.proofs.EndLemmas.{of_refusal, of_status, ok_weaker}
use Rattle.mpc_cli.proofs.FileEnds.{found_answer, accepted_answer}
use Rattle.mpc_cli.proofs.file_answers.check_answer.Goals as goal

pub returns-in-Ok-Accepted : goal.returns-in-Ok-Accepted
returns-in-Ok-Accepted g c =
    of_status c.accepted.result Done (codes "accepted\n") (λ a. IsAnswerTo (OfFile Check) c.args.input.now a.status a.text.items)
    c.accepted.ensures.status c.accepted.ensures.text (λ a e f. accepted_answer c.file_output_theorems.ensures.accepted c.args.input.now a.status a.text.items e f c.few_bytes.ensures (rw c.in-Ok-Accepted.field-0-is at c.in-Ok-Accepted.ensures.answer))

pub returns-in-Ok-Refused : goal.returns-in-Ok-Refused
returns-in-Ok-Refused g c =
    let o = finds (refused c.in-Ok-Refused.spot) in
    of_refusal c.refusal.result (Refused c.in-Ok-Refused.spot) (λ a. IsAnswerTo (OfFile Check) c.args.input.now a.status a.text.items)
    c.refusal.ensures.status c.refusal.ensures.text (λ a e f. found_answer o a.status a.text.items (λ d. absurd cc) e f c.args.input.now (rw c.in-Ok-Refused.field-0-is at c.in-Ok-Refused.ensures.answer))

pub returns-in-Err : goal.returns-in-Err
returns-in-Err g c =
    ok_weaker c.check_refusal.result (λ a. (input : List ℕ) → IsFileCause input c.in-Err.error → IsAnswerTo (OfFile Check) input a.status a.text.items) (λ a. IsAnswerTo (OfFile Check) c.args.input.now a.status a.text.items)
    (λ a h. h c.args.input.now c.in-Err.ensures.cause)
    c.check_refusal.ensures

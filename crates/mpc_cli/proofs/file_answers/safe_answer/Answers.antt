use Rattle.std.proofs.Common.{ℕ, List}
use Rattle.std.specs.Prelude.{codes}
use Rattle.mpc_check.specs.Findings.{refused}
use Rattle.mpc_recur.specs.Findings.{reached}
use Rattle.mpc_files.specs.declared.answers.Safety.TheVariants.{Refused as RefusedAnswer, Unsafe as UnsafeAnswer}
use Rattle.mpc_files.specs.SafetyOutcomes.{finds, steps, IsCausedBy}
use Rattle.mpc_status.specs.declared.status.Status.TheVariants.{Done, Refused, Unsafe}
use Rattle.mpc_cli.specs.declared.commands.Command.TheVariants.{OfFile}
use Rattle.mpc_cli.specs.declared.commands.FileCommand.TheVariants.{Safe}
use Rattle.mpc_cli.specs.Outcomes.{IsAnswerTo}
use Rattle.mpc_cli.proofs.EndLemmas.{of_refusal, of_status, ok_weaker}
use Rattle.mpc_cli.proofs.FileEnds.{safety_found, safe_answers}
use Rattle.mpc_cli.proofs.file_answers.safe_answer.Goals as goal

pub returns-in-Ok-Safe : goal.returns-in-Ok-Safe
returns-in-Ok-Safe g c =
    of_status c.safe.result Done (codes "safe\n") (λ a. IsAnswerTo (OfFile Safe) c.args.input.now a.status a.text.items)
    c.safe.ensures.status c.safe.ensures.text
    (λ a e f. safe_answers c.safe_file_theorems.ensures.answered c.safe_file_theorems.ensures.forever c.args.input.now a.status a.text.items e f (rw c.in-Ok-Safe.field-0-is at c.in-Ok-Safe.ensures.answer))

pub returns-in-Ok-Refused : goal.returns-in-Ok-Refused
returns-in-Ok-Refused g c =
    let o = finds (refused c.in-Ok-Refused.spot) in
    of_refusal c.refusal.result (Refused c.in-Ok-Refused.spot) (λ a. IsAnswerTo (OfFile Safe) c.args.input.now a.status a.text.items)
    c.refusal.ensures.status c.refusal.ensures.text
    (λ a e f. safety_found o a.status a.text.items (λ d. absurd cc) e f c.args.input.now (c.safe_file_theorems.ensures.answered c.args.input.now (RefusedAnswer c.in-Ok-Refused.spot) (rw c.in-Ok-Refused.field-0-is at c.in-Ok-Refused.ensures.answer)))

pub returns-in-Ok-Unsafe : goal.returns-in-Ok-Unsafe
returns-in-Ok-Unsafe g c =
    let o = steps (reached c.in-Ok-Unsafe.next c.in-Ok-Unsafe.point) in
    of_refusal c.refusal-in-Ok-Unsafe.result (Unsafe c.in-Ok-Unsafe.next c.in-Ok-Unsafe.point) (λ a. IsAnswerTo (OfFile Safe) c.args.input.now a.status a.text.items)
    c.refusal-in-Ok-Unsafe.ensures.status c.refusal-in-Ok-Unsafe.ensures.text
    (λ a e f. safety_found o a.status a.text.items (λ d. absurd cc) e f c.args.input.now (c.safe_file_theorems.ensures.answered c.args.input.now (UnsafeAnswer c.in-Ok-Unsafe.next c.in-Ok-Unsafe.point) (rw c.in-Ok-Unsafe.field-0-is at c.in-Ok-Unsafe.ensures.answer)))

pub returns-in-Err : goal.returns-in-Err
returns-in-Err g c =
    ok_weaker c.safety_refusal.result (λ a. (input : List ℕ) → IsCausedBy input c.in-Err.error → IsAnswerTo (OfFile Safe) input a.status a.text.items) (λ a. IsAnswerTo (OfFile Safe) c.args.input.now a.status a.text.items)
    (λ a h. h c.args.input.now (c.one_safety_answer.ensures.caused c.args.input.now c.in-Err.error c.in-Err.ensures.cause))
    c.safety_refusal.ensures

use Rattle.std.proofs.Common.{ℕ, List, subst}
use Rattle.mpc_check.specs.Findings.{too_wide, not_definite}
use Rattle.mpc_recur.specs.Findings.{too_wide as too_wide_step}
use Rattle.mpc_files.specs.SafetyOutcomes.{bad_file, finds, steps, IsCausedBy}
use Rattle.mpc_status.specs.declared.late.LatePlace.TheVariants.{Next}
use Rattle.mpc_status.specs.declared.status.Status.TheVariants.{BadFile, NotDefinite, TooWide, WideLater}
use Rattle.mpc_cli.specs.declared.commands.Command.TheVariants.{OfFile}
use Rattle.mpc_cli.specs.declared.commands.FileCommand.TheVariants.{Safe}
use Rattle.mpc_cli.specs.Outcomes.{IsAnswerTo}
use Rattle.mpc_cli.proofs.EndLemmas.{of_refusal}
use Rattle.mpc_cli.proofs.FileEnds.{safety_found}
use Rattle.mpc_cli.proofs.file_answers.safety_refusal.Goals as goal

pub returns-in-BadFile : goal.returns-in-BadFile
returns-in-BadFile c =
    let o = bad_file c.in-BadFile.kind c.in-BadFile.number in
    of_refusal c.refusal.result (BadFile c.in-BadFile.kind c.in-BadFile.number) (λ a. (input : List ℕ) → IsCausedBy input c.args.error → IsAnswerTo (OfFile Safe) input a.status a.text.items)
    c.refusal.ensures.status c.refusal.ensures.text (λ a e f input h. safety_found o a.status a.text.items (λ d. absurd cc) e f input (subst (IsCausedBy input) c.in-BadFile.is h))

pub returns-in-NotDefinite : goal.returns-in-NotDefinite
returns-in-NotDefinite c =
    let o = finds (not_definite c.in-NotDefinite.pivot) in
    of_refusal c.refusal-in-NotDefinite.result (NotDefinite c.in-NotDefinite.pivot) (λ a. (input : List ℕ) → IsCausedBy input c.args.error → IsAnswerTo (OfFile Safe) input a.status a.text.items)
    c.refusal-in-NotDefinite.ensures.status c.refusal-in-NotDefinite.ensures.text (λ a e f input h. safety_found o a.status a.text.items (λ d. absurd cc) e f input (subst (IsCausedBy input) c.in-NotDefinite.is h))

pub returns-in-TooWide : goal.returns-in-TooWide
returns-in-TooWide c =
    let o = finds (too_wide c.in-TooWide.place) in
    of_refusal c.refusal-in-TooWide.result (TooWide c.in-TooWide.place) (λ a. (input : List ℕ) → IsCausedBy input c.args.error → IsAnswerTo (OfFile Safe) input a.status a.text.items)
    c.refusal-in-TooWide.ensures.status c.refusal-in-TooWide.ensures.text (λ a e f input h. safety_found o a.status a.text.items (λ d. absurd cc) e f input (subst (IsCausedBy input) c.in-TooWide.is h))

pub returns-in-WideLater : goal.returns-in-WideLater
returns-in-WideLater c =
    let o = steps (too_wide_step c.in-WideLater.next) in
    of_refusal c.refusal-in-WideLater.result (WideLater (Next c.in-WideLater.next)) (λ a. (input : List ℕ) → IsCausedBy input c.args.error → IsAnswerTo (OfFile Safe) input a.status a.text.items)
    c.refusal-in-WideLater.ensures.status c.refusal-in-WideLater.ensures.text (λ a e f input h. safety_found o a.status a.text.items (λ d. absurd cc) e f input (subst (IsCausedBy input) c.in-WideLater.is h))

use Rattle.std.proofs.Common.{ℕ, List, subst}
use Rattle.mpc_trace.specs.Drills.{ExplainsDrillError}
use Rattle.mpc_status.specs.declared.status.Status.TheVariants.{NotDefinite, TooWide}
use Rattle.mpc_cli.specs.declared.commands.Command.TheVariants.{Drill}
use Rattle.mpc_cli.specs.Outcomes.{IsAnswerTo}
use Rattle.mpc_cli.proofs.EndLemmas.{of_refusal}
use Rattle.mpc_cli.proofs.DrillEnds.{not_definite_answer, too_wide_answer}
use Rattle.mpc_cli.proofs.drill_answers.drill_refusal.Goals as goal

pub returns-in-NotDefinite : goal.returns-in-NotDefinite
returns-in-NotDefinite c =
    of_refusal c.refusal.result (NotDefinite c.in-NotDefinite.pivot) (λ a. (number : ℕ) (input : List ℕ) → ExplainsDrillError number c.args.error → IsAnswerTo (Drill number) input a.status a.text.items)
    c.refusal.ensures.status c.refusal.ensures.text (λ a e f number input h. not_definite_answer c.in-NotDefinite.pivot a.status a.text.items e f number input (subst (ExplainsDrillError number) c.in-NotDefinite.is h))

pub returns-in-TooWide : goal.returns-in-TooWide
returns-in-TooWide c =
    of_refusal c.refusal-in-TooWide.result (TooWide c.in-TooWide.place) (λ a. (number : ℕ) (input : List ℕ) → ExplainsDrillError number c.args.error → IsAnswerTo (Drill number) input a.status a.text.items)
    c.refusal-in-TooWide.ensures.status c.refusal-in-TooWide.ensures.text (λ a e f number input h. too_wide_answer c.in-TooWide.place a.status a.text.items e f number input (subst (ExplainsDrillError number) c.in-TooWide.is h))

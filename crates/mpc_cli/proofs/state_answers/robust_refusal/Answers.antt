use Rattle.std.proofs.Common.{ℕ, List, subst}
use Rattle.mpc_condense.specs.Outcomes.{not_definite, too_wide}
use Rattle.mpc_states.specs.Inputs.{IsRobustCause}
use Rattle.mpc_states.specs.Outcomes.{bad_robust_plant, bad_noise, of_robust_program, wide_row}
use Rattle.mpc_status.specs.declared.late.LatePlace.TheVariants.{Tight}
use Rattle.mpc_status.specs.declared.status.Status.TheVariants.{BadPlant, BadNoise, NotDefinite, TooWide, WideLater}
use Rattle.mpc_cli.specs.declared.commands.Command.TheVariants.{OfStates}
use Rattle.mpc_cli.specs.declared.commands.StateCommand.TheVariants.{Robust}
use Rattle.mpc_cli.specs.Outcomes.{IsAnswerTo}
use Rattle.mpc_cli.proofs.EndLemmas.{of_refusal}
use Rattle.mpc_cli.proofs.StateEnds.{robust_found}
use Rattle.mpc_cli.proofs.state_answers.robust_refusal.Goals as goal

pub returns-in-BadPlant : goal.returns-in-BadPlant
returns-in-BadPlant c =
    let o = bad_robust_plant c.in-BadPlant.kind c.in-BadPlant.path in
    of_refusal c.refusal.result (BadPlant c.in-BadPlant.kind c.in-BadPlant.path) (λ a. (input : List ℕ) → IsRobustCause input c.args.error → IsAnswerTo (OfStates Robust) input a.status a.text.items)
    c.refusal.ensures.status c.refusal.ensures.text (λ a e f input h. robust_found o a.status a.text.items (λ d. absurd cc) e f input (subst (IsRobustCause input) c.in-BadPlant.is h))

pub returns-in-BadNoise : goal.returns-in-BadNoise
returns-in-BadNoise c =
    let o = bad_noise in
    of_refusal c.refusal-in-BadNoise.result BadNoise (λ a. (input : List ℕ) → IsRobustCause input c.args.error → IsAnswerTo (OfStates Robust) input a.status a.text.items)
    c.refusal-in-BadNoise.ensures.status c.refusal-in-BadNoise.ensures.text (λ a e f input h. robust_found o a.status a.text.items (λ d. absurd cc) e f input (subst (IsRobustCause input) c.in-BadNoise.is h))

pub returns-in-NotDefinite : goal.returns-in-NotDefinite
returns-in-NotDefinite c =
    let o = of_robust_program (not_definite c.in-NotDefinite.pivot) in
    of_refusal c.refusal-in-NotDefinite.result (NotDefinite c.in-NotDefinite.pivot) (λ a. (input : List ℕ) → IsRobustCause input c.args.error → IsAnswerTo (OfStates Robust) input a.status a.text.items)
    c.refusal-in-NotDefinite.ensures.status c.refusal-in-NotDefinite.ensures.text (λ a e f input h. robust_found o a.status a.text.items (λ d. absurd cc) e f input (subst (IsRobustCause input) c.in-NotDefinite.is h))

pub returns-in-TooWide : goal.returns-in-TooWide
returns-in-TooWide c =
    let o = of_robust_program (too_wide c.in-TooWide.place) in
    of_refusal c.refusal-in-TooWide.result (TooWide c.in-TooWide.place) (λ a. (input : List ℕ) → IsRobustCause input c.args.error → IsAnswerTo (OfStates Robust) input a.status a.text.items)
    c.refusal-in-TooWide.ensures.status c.refusal-in-TooWide.ensures.text (λ a e f input h. robust_found o a.status a.text.items (λ d. absurd cc) e f input (subst (IsRobustCause input) c.in-TooWide.is h))

pub returns-in-WideRow : goal.returns-in-WideRow
returns-in-WideRow c =
    let o = wide_row c.in-WideRow.row in
    of_refusal c.refusal-in-WideRow.result (WideLater (Tight c.in-WideRow.row)) (λ a. (input : List ℕ) → IsRobustCause input c.args.error → IsAnswerTo (OfStates Robust) input a.status a.text.items)
    c.refusal-in-WideRow.ensures.status c.refusal-in-WideRow.ensures.text (λ a e f input h. robust_found o a.status a.text.items (λ d. absurd cc) e f input (subst (IsRobustCause input) c.in-WideRow.is h))

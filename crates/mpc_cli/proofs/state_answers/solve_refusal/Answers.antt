use Rattle.std.proofs.Common.{ℕ, List, subst}
use Rattle.mpc_condense.specs.Outcomes.{not_definite, too_wide}
use Rattle.mpc_states.specs.Inputs.{IsSolveCause}
use Rattle.mpc_states.specs.Outcomes.{bad_plant, of_program}
use Rattle.mpc_status.specs.declared.status.Status.TheVariants.{BadPlant, NotDefinite, TooWide}
use Rattle.mpc_cli.specs.declared.commands.Command.TheVariants.{OfStates}
use Rattle.mpc_cli.specs.declared.commands.StateCommand.TheVariants.{Solve}
use Rattle.mpc_cli.specs.Outcomes.{IsAnswerTo}
use Rattle.mpc_cli.proofs.EndLemmas.{of_refusal}
use Rattle.mpc_cli.proofs.StateEnds.{solve_found}
use Rattle.mpc_cli.proofs.state_answers.solve_refusal.Goals as goal

pub returns-in-BadPlant : goal.returns-in-BadPlant
returns-in-BadPlant c =
    let o = bad_plant c.in-BadPlant.kind c.in-BadPlant.path in
    of_refusal c.refusal.result (BadPlant c.in-BadPlant.kind c.in-BadPlant.path) (λ a. (input : List ℕ) → IsSolveCause input c.args.error → IsAnswerTo (OfStates Solve) input a.status a.text.items)
    c.refusal.ensures.status c.refusal.ensures.text (λ a e f input h. solve_found o a.status a.text.items (λ d. absurd cc) e f input (subst (IsSolveCause input) c.in-BadPlant.is h))

pub returns-in-NotDefinite : goal.returns-in-NotDefinite
returns-in-NotDefinite c =
    let o = of_program (not_definite c.in-NotDefinite.pivot) in
    of_refusal c.refusal-in-NotDefinite.result (NotDefinite c.in-NotDefinite.pivot) (λ a. (input : List ℕ) → IsSolveCause input c.args.error → IsAnswerTo (OfStates Solve) input a.status a.text.items)
    c.refusal-in-NotDefinite.ensures.status c.refusal-in-NotDefinite.ensures.text (λ a e f input h. solve_found o a.status a.text.items (λ d. absurd cc) e f input (subst (IsSolveCause input) c.in-NotDefinite.is h))

pub returns-in-TooWide : goal.returns-in-TooWide
returns-in-TooWide c =
    let o = of_program (too_wide c.in-TooWide.place) in
    of_refusal c.refusal-in-TooWide.result (TooWide c.in-TooWide.place) (λ a. (input : List ℕ) → IsSolveCause input c.args.error → IsAnswerTo (OfStates Solve) input a.status a.text.items)
    c.refusal-in-TooWide.ensures.status c.refusal-in-TooWide.ensures.text (λ a e f input h. solve_found o a.status a.text.items (λ d. absurd cc) e f input (subst (IsSolveCause input) c.in-TooWide.is h))

-- What comes of recorded states, and the answers to them.
use Rattle.std.proofs.Common.{◌≡◌, ◌≢◌, ℕ, List, ◌∙◌, ap}
use Rattle.mpc_condense.specs.Outcomes.{convex}
use Rattle.mpc_states.specs.Inputs.{IsSolved as IsSolvedByRun, IsRobustlySolved as IsRobustlySolvedByRun}
use Rattle.mpc_states.specs.Outcomes.{SolveOutcome, of_program, IsSolveOutcome, OneSolveOutcome, RobustOutcome, robust_replies, IsRobustOutcome, OneRobustOutcome}
use Rattle.mpc_states.specs.StateTheorems.{SolveIsComplete, RobustIsComplete}
use Rattle.mpc_status.specs.declared.status.Status.{Status}
use Rattle.mpc_status.specs.declared.status.Status.TheVariants.{Done}
use Rattle.mpc_status.specs.StatusText.{line_of}
use Rattle.mpc_theorem.specs.PlantOutputs.{SolvedByRun, RobustlySolvedByRun, ExactIsSolved, ExactIsRobustlySolved}
use Rattle.mpc_cli.specs.declared.commands.Command.TheVariants.{OfStates}
use Rattle.mpc_cli.specs.declared.commands.StateCommand.{StateCommand}
use Rattle.mpc_cli.specs.declared.commands.StateCommand.TheVariants.{Solve, Robust}
use Rattle.mpc_cli.specs.Outputs.{IsOutput}
use Rattle.mpc_cli.specs.Statuses.{solve_status, robust_status, ComesToStates}
use Rattle.mpc_cli.specs.Answers.{StatesPass}
use Rattle.mpc_cli.specs.Outcomes.{IsAnswerTo}
use Rattle.mpc_cli.proofs.EndLemmas.{one_of, done_text, line_text}

-- ---- one end
pub one_state : OneSolveOutcome → OneRobustOutcome → (c : StateCommand) (input : List ℕ) (s t : Status) → ComesToStates c input s → ComesToStates c input t → s ≡ t
one_state solve robust Solve input s t h k = one_of (IsSolveOutcome input) solve_status s t (solve input) h k
one_state solve robust Robust input s t h k = one_of (IsRobustOutcome input) robust_status s t (robust input) h k

-- where nothing is refused, Done is due
pub states_done : SolveIsComplete → RobustIsComplete → (c : StateCommand) (input : List ℕ) (s : Status) → StatesPass c input → ComesToStates c input s → s ≡ Done
states_done solve robust Solve input s n h = h.status_is ∙ ap solve_status (solve input n.0 h.outcome n.1 h.came)
states_done solve robust Robust input s n h = h.status_is ∙ ap robust_status (robust input n.0 n.1 h.outcome n.2 h.came)

-- ---- the answers
pub solve_found : (o : SolveOutcome) (status : Status) (text : List ℕ) → solve_status o ≢ Done → status ≡ solve_status o → text ≡ line_of (solve_status o) → (input : List ℕ) → IsSolveOutcome input o → IsAnswerTo (OfStates Solve) input status text
solve_found o status text other e f input h = record { due = record { outcome = o; came = h; status_is = e }; text_is = line_text (IsOutput (OfStates Solve) input) (solve_status o) status text other e f }

pub solve_answers : SolvedByRun → ExactIsSolved → (input : List ℕ) (status : Status) (text out : List ℕ) → status ≡ Done → text ≡ out → IsSolveOutcome input (of_program convex) → IsSolvedByRun input out → IsAnswerTo (OfStates Solve) input status text
solve_answers exact solved input status text out e f came h = record { due = record { outcome = of_program convex; came = came; status_is = e }; text_is = done_text (IsOutput (OfStates Solve) input) status text out e f (solved input out ((exact input out).0 h), (exact input out).0 h) }

pub robust_found : (o : RobustOutcome) (status : Status) (text : List ℕ) → robust_status o ≢ Done → status ≡ robust_status o → text ≡ line_of (robust_status o) → (input : List ℕ) → IsRobustOutcome input o → IsAnswerTo (OfStates Robust) input status text
robust_found o status text other e f input h = record { due = record { outcome = o; came = h; status_is = e }; text_is = line_text (IsOutput (OfStates Robust) input) (robust_status o) status text other e f }

pub robust_answers : RobustlySolvedByRun → ExactIsRobustlySolved → (input : List ℕ) (status : Status) (text out : List ℕ) → status ≡ Done → text ≡ out → IsRobustOutcome input robust_replies → IsRobustlySolvedByRun input out → IsAnswerTo (OfStates Robust) input status text
robust_answers exact solved input status text out e f came h = record { due = record { outcome = robust_replies; came = came; status_is = e }; text_is = done_text (IsOutput (OfStates Robust) input) status text out e f (solved input out ((exact input out).0 h), (exact input out).0 h) }

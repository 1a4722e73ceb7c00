use Rattle.std.proofs.Common.{ℕ, List}
use Rattle.mpc_states.specs.Inputs.{IsSolveCause}
use Rattle.mpc_cli.specs.declared.commands.Command.TheVariants.{OfStates}
use Rattle.mpc_cli.specs.declared.commands.StateCommand.TheVariants.{Solve}
use Rattle.mpc_cli.specs.Outcomes.{IsAnswerTo}
use Rattle.mpc_cli.proofs.EndLemmas.{ok_weaker}
use Rattle.mpc_cli.proofs.StateEnds.{solve_answers}
use Rattle.mpc_cli.proofs.state_answers.solve_answer.Goals as goal

pub returns-in-Ok : goal.returns-in-Ok
returns-in-Ok c = solve_answers c.output_lines.ensures.solve c.output_lines.ensures.solved c.args.input.now c.output.result.status c.output.result.text.items c.in-Ok.text.items c.output.ensures.status c.output.ensures.text c.in-Ok.ensures.replied c.in-Ok.ensures.text

pub returns-in-Err : goal.returns-in-Err
returns-in-Err c =
    ok_weaker c.solve_refusal.result (λ a. (input : List ℕ) → IsSolveCause input c.in-Err.error → IsAnswerTo (OfStates Solve) input a.status a.text.items) (λ a. IsAnswerTo (OfStates Solve) c.args.input.now a.status a.text.items)
    (λ a h. h c.args.input.now c.in-Err.ensures.cause)
    c.solve_refusal.ensures

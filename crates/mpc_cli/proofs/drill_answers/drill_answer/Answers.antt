use Rattle.std.proofs.Common.{ℕ, List}
use Rattle.mpc_trace.specs.Drills.{ExplainsDrillError}
use Rattle.mpc_cli.specs.declared.commands.Command.TheVariants.{Drill}
use Rattle.mpc_cli.specs.Outcomes.{IsAnswerTo}
use Rattle.mpc_cli.proofs.EndLemmas.{ok_weaker}
use Rattle.mpc_cli.proofs.DrillEnds.{drilled_answer}
use Rattle.mpc_cli.proofs.drill_answers.drill_answer.Goals as goal

pub returns-in_ok-line-in-Ok : goal.returns-in_ok-line-in-Ok
returns-in_ok-line-in-Ok g c =
    drilled_answer c.drill_line_theorems.ensures c.args.number c.in-Ok.drilled c.output.result.status c.output.result.text.items c.in_ok-line-in-Ok.line.items c.output.ensures.status c.output.ensures.text c.in_ok-line-in-Ok.ensures c.in-Ok.ensures.drilled

pub returns-in-Err : goal.returns-in-Err
returns-in-Err g c =
    ok_weaker c.drill_refusal.result (λ a. (number : ℕ) (input : List ℕ) → ExplainsDrillError number c.in-Err.error → IsAnswerTo (Drill number) input a.status a.text.items) (λ a. (input : List ℕ) → IsAnswerTo (Drill c.args.number) input a.status a.text.items)
    (λ a h input. h c.args.number input c.in-Err.ensures.refused)
    c.drill_refusal.ensures

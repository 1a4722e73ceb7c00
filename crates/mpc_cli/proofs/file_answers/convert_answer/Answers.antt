use Rattle.std.proofs.Common.{List, ℕ}
use Rattle.mpc_grammar.specs.FileGrammar.{ExplainsFileError}
use Rattle.mpc_cli.specs.declared.commands.Command.TheVariants.{OfFile}
use Rattle.mpc_cli.specs.declared.commands.FileCommand.TheVariants.{Convert}
use Rattle.mpc_cli.specs.Outcomes.{IsAnswerTo}
use Rattle.mpc_cli.proofs.EndLemmas.{ok_weaker}
use Rattle.mpc_cli.proofs.OutputEnds.{few_bytes}
use Rattle.mpc_cli.proofs.FileEnds.{convert_answers}
use Rattle.mpc_cli.proofs.file_answers.convert_answer.Goals as goal

pub returns-in-Ok : goal.returns-in-Ok
returns-in-Ok c = convert_answers c.file_output_theorems.ensures.converted c.args.input.now c.output.result.status c.output.result.text.items c.in-Ok.text.items c.output.ensures.status c.output.ensures.text c.few_bytes.ensures (few_bytes c.in-Ok.text) c.in-Ok.ensures.ok

pub returns-in-Err : goal.returns-in-Err
returns-in-Err c =
    ok_weaker c.file_refusal.result (λ a. (input : List ℕ) → ExplainsFileError input c.in-Err.error → IsAnswerTo (OfFile Convert) input a.status a.text.items) (λ a. IsAnswerTo (OfFile Convert) c.args.input.now a.status a.text.items)
    (λ a h. h c.args.input.now c.in-Err.ensures.err)
    c.file_refusal.ensures.convert

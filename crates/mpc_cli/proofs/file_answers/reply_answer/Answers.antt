use Rattle.std.proofs.Common.{List, ℕ, subst, subst₂, ◌^◌, ◌<◌, length}
use Rattle.std.specs.Str.Lines.{lines}
use Rattle.mpc_grammar.specs.FileGrammar.{ExplainsFileError}
use Rattle.mpc_files.specs.FileAnswers.{FileReplies}
use Rattle.mpc_table.specs.Cut.{head_of}
use Rattle.mpc_cli.specs.declared.commands.Command.TheVariants.{OfFile}
use Rattle.mpc_cli.specs.declared.commands.FileCommand.TheVariants.{Reply}
use Rattle.mpc_cli.specs.Outcomes.{IsAnswerTo}
use Rattle.mpc_cli.proofs.EndLemmas.{ok_weaker}
use Rattle.mpc_cli.proofs.FileEnds.{reply_answers}
use Rattle.mpc_cli.proofs.file_answers.reply_answer.Goals as goal

pub returns-in-Ok : goal.returns-in-Ok
returns-in-Ok c =
    reply_answers c.file_output_theorems.ensures.replied c.args.input.now c.output.result.status c.output.result.text.items c.in-Ok.text.items c.output.ensures.status c.output.ensures.text (subst (λ (head : List ℕ). length head < 2 ^ 64) c.cut-sections.ensures.head c.few_bytes.ensures)
    (subst₂ (λ (head counts : List ℕ). FileReplies head (lines counts) c.in-Ok.text.items) c.cut-sections.ensures.head c.cut-sections.ensures.counts c.in-Ok.ensures.ok)

pub returns-in-Err : goal.returns-in-Err
returns-in-Err c =
    ok_weaker c.file_refusal.result (λ a. (input : List ℕ) → ExplainsFileError (head_of input) c.in-Err.error → IsAnswerTo (OfFile Reply) input a.status a.text.items) (λ a. IsAnswerTo (OfFile Reply) c.args.input.now a.status a.text.items)
    (λ a h. h c.args.input.now (subst (λ (head : List ℕ). ExplainsFileError head c.in-Err.error) c.cut-sections.ensures.head c.in-Err.ensures.err))
    c.file_refusal.ensures.reply

use Rattle.std.proofs.Common.{ℕ, List, subst}
use Rattle.mpc_grammar.specs.FileGrammar.{ExplainsFileError}
use Rattle.mpc_table.specs.Cut.{head_of}
use Rattle.mpc_status.specs.declared.status.Status.TheVariants.{BadFile}
use Rattle.mpc_cli.specs.declared.commands.Command.TheVariants.{OfFile}
use Rattle.mpc_cli.specs.declared.commands.FileCommand.TheVariants.{Reply, Convert}
use Rattle.mpc_cli.specs.Outcomes.{IsAnswerTo}
use Rattle.mpc_cli.proofs.EndLemmas.{of_refusal}
use Rattle.mpc_cli.proofs.FileEnds.{bad_reply, bad_convert}
use Rattle.mpc_cli.proofs.file_answers.file_refusal.Goals as goal

pub returns-in-Bad-clause-reply : goal.returns-in-Bad-clause-reply
returns-in-Bad-clause-reply c =
    of_refusal c.refusal.result (BadFile c.in-Bad.kind c.in-Bad.number) (λ a. (input : List ℕ) → ExplainsFileError (head_of input) c.args.error → IsAnswerTo (OfFile Reply) input a.status a.text.items)
    c.refusal.ensures.status c.refusal.ensures.text (λ a e f input h. bad_reply c.in-Bad.kind c.in-Bad.number a.status a.text.items e f input (subst (ExplainsFileError (head_of input)) c.in-Bad.is h))

pub returns-in-Bad-clause-convert : goal.returns-in-Bad-clause-convert
returns-in-Bad-clause-convert c =
    of_refusal c.refusal.result (BadFile c.in-Bad.kind c.in-Bad.number) (λ a. (input : List ℕ) → ExplainsFileError input c.args.error → IsAnswerTo (OfFile Convert) input a.status a.text.items)
    c.refusal.ensures.status c.refusal.ensures.text (λ a e f input h. bad_convert c.in-Bad.kind c.in-Bad.number a.status a.text.items e f input (subst (ExplainsFileError input) c.in-Bad.is h))

use Rattle.std.specs.Prelude.{codes}
use Rattle.mpc_cli.specs.declared.commands.Command.TheVariants.{OfFile}
use Rattle.mpc_cli.specs.declared.commands.FileCommand.TheVariants.{Check}
use Rattle.mpc_cli.specs.Outcomes.{IsAnswerFor}
use Rattle.mpc_c.proofs.FileEnds.{told_text, refused_file, accepted_file}
use Rattle.mpc_c.proofs.files.checked.Goals as goal

pub returns-in-Err : goal.returns-in-Err
returns-in-Err c = refused_file c.due_statuses.ensures Check c.args.file.now c.in-Err.status c.if-file-gt-INPUT_LIMIT.false (c.in-Err.ensures.refused Check tt)

pub returns : goal.returns
returns c =
    told_text (IsAnswerFor (OfFile Check) c.args.file.now) (codes "accepted\n") c.text_of.result c.text_of.ensures.text c.text_of.ensures.memory
    (accepted_file c.args.file.now c.in-Ok.controller c.in-Ok.ensures.given c.due_statuses.ensures c.if-file-gt-INPUT_LIMIT.false c.in-Ok.ensures.accepted c.replies_everywhere.ensures c.accepted_replies.ensures c.file_output_theorems.ensures.accepted)

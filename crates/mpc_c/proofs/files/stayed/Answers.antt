use Rattle.std.specs.Prelude.{codes}
use Rattle.mpc_cli.specs.declared.commands.Command.TheVariants.{OfFile}
use Rattle.mpc_cli.specs.declared.commands.FileCommand.TheVariants.{Safe}
use Rattle.mpc_cli.specs.Outcomes.{IsAnswerFor}
use Rattle.mpc_c.proofs.FileEnds.{told_text, refused_file, step_found, safe_file}
use Rattle.mpc_c.proofs.files.stayed.Goals as goal

pub returns-in-Err : goal.returns-in-Err
returns-in-Err c = refused_file c.due_statuses.ensures Safe c.args.file.now c.in-Err.status c.if-file-gt-INPUT_LIMIT.false (c.in-Err.ensures.refused Safe tt)

pub returns-in-Err-stay : goal.returns-in-Err-stay
returns-in-Err-stay c =
    refused_file c.due_statuses.ensures Safe c.args.file.now c.in-Err-stay.status c.if-file-gt-INPUT_LIMIT.false
    (step_found c.args.file.now c.in-Ok.controller c.in-Ok.ensures.given c.due_statuses.ensures c.if-file-gt-INPUT_LIMIT.false c.in-Ok.ensures.accepted c.safe_file_theorems.ensures.due c.in-Err-stay.status c.in-Err-stay.ensures.refused)

pub returns : goal.returns
returns c =
    told_text (IsAnswerFor (OfFile Safe) c.args.file.now) (codes "safe\n") c.text_of.result c.text_of.ensures.text c.text_of.ensures.memory
    (safe_file c.args.file.now c.in-Ok.controller c.in-Ok.ensures.given c.due_statuses.ensures c.if-file-gt-INPUT_LIMIT.false c.in-Ok.ensures.accepted c.safe_stays_right.ensures c.in-Ok-stay.ensures.safe)

use Rattle.std.proofs.Common.{[], Err, ◌∙◌, ap}
use Rattle.mpc_c.proofs.FileEnds.{plant_file, bad_plant_of}
use Rattle.mpc_c.proofs.files.compiled.Goals as goal

pub returns-in-Ok : goal.returns-in-Ok
returns-in-Ok c = λ workers. plant_file c.due_statuses.ensures workers c.args.file.now c.if-file-gt-INPUT_LIMIT.false c.plant_texts.ensures.read c.file_output_theorems.ensures.compiled c.in-Ok.plant c.in-Ok.ensures.ok c.compiled_plant.result (c.compiled_plant.ensures workers [])

pub returns-in-Err : goal.returns-in-Err
returns-in-Err c = λ workers.
    bad_plant_of c.due_statuses.ensures workers c.args.file.now c.if-file-gt-INPUT_LIMIT.false c.in-Err.error c.plant_status.result (λ kind path e. c.read_plant.ensures.bad kind path (c.in-Err.is ∙ ap Err e)) c.plant_status.ensures

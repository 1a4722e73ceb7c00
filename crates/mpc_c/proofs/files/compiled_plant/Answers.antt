use Rattle.mpc_synthesis.specs.Outcomes.{not_definite, too_wide}
use Rattle.mpc_c.proofs.FileEnds.{refused_plant, file_of}
use Rattle.mpc_c.proofs.files.compiled_plant.Goals as goal

pub returns-in-Err-NotDefinite : goal.returns-in-Err-NotDefinite
returns-in-Err-NotDefinite c = λ workers counts in_memory.
    rw c.in-Err-NotDefinite.pivot-is (refused_plant workers c.args.plant counts (not_definite c.in-Err-NotDefinite.pivot) (rw c.in-Err-NotDefinite.field-0-is at c.in-Err-NotDefinite.ensures.refused) (λ d. absurd cc))

pub returns-in-Err-TooWide : goal.returns-in-Err-TooWide
returns-in-Err-TooWide c = λ workers counts in_memory.
    rw c.in-Err-TooWide.place-is (refused_plant workers c.args.plant counts (too_wide c.in-Err-TooWide.place) (rw c.in-Err-TooWide.field-0-is at c.in-Err-TooWide.ensures.refused) (λ d. absurd cc))

pub returns-in-Ok-write_file : goal.returns-in-Ok-write_file
returns-in-Ok-write_file c = λ workers counts.
    let is = c.in-Ok.ensures.controller in
    file_of workers c.args.plant counts c.right_controller.ensures.right c.right_controller.ensures.replies c.one_controller.ensures c.one_text.ensures is.0 c.in-Ok.parts is.1 c.in-Ok-write_file.text.items c.in-Ok-write_file.ensures

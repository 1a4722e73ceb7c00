use Rattle.std.proofs.Common.{Err, refl, ap, ◌∙◌}
use Rattle.mpc_synthesis.specs.Refusals.{controller, wide_program}
use Rattle.mpc_status.specs.declared.status.Status.TheVariants.{NotDefinite, TooWide}
use Rattle.mpc_sections.specs.Alone.{not_definite, too_wide, of_plant}
use Rattle.mpc_sections.proofs.StepLemmas.{fault_begins}
use Rattle.mpc_sections.proofs.beginnings.begin.Goals as goal

pub returns-in-Err : goal.returns-in-Err
returns-in-Err c = fault_begins c.args.section.now c.args.programs.now.items c.in-Err.error c.fault_of.result (λ kind path e. c.read_plant.ensures.bad kind path (c.in-Err.is ∙ ap Err e)) c.fault_of.ensures

pub returns-in-Err-NotDefinite : goal.returns-in-Err-NotDefinite
returns-in-Err-NotDefinite c =
    (of_plant c.in-Ok.plant (NotDefinite c.in-Err-NotDefinite.pivot) _ c.in-Ok.ensures.ok (not_definite c.in-Err-NotDefinite.pivot (rw c.in-Err-NotDefinite.field-0-is at c.in-Err-NotDefinite.ensures.cause)), refl)

pub returns-in-Err-TooWide : goal.returns-in-Err-TooWide
returns-in-Err-TooWide c =
    (of_plant c.in-Ok.plant (TooWide c.in-Err-TooWide.place) _ c.in-Ok.ensures.ok (too_wide c.in-Err-TooWide.place (wide_program controller c.in-Err-TooWide.place (rw c.in-Err-TooWide.field-0-is at c.in-Err-TooWide.ensures.cause))), refl)

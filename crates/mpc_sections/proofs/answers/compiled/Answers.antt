use Rattle.mpc_status.specs.declared.status.Status.TheVariants.{NotDefinite, TooWide}
use Rattle.mpc_sections.specs.Alone.{not_definite, too_wide, compiled}
use Rattle.mpc_sections.proofs.StepLemmas.{refused_as}
use Rattle.mpc_sections.proofs.answers.compiled.Goals as goal

pub returns-in-Err-NotDefinite : goal.returns-in-Err-NotDefinite
returns-in-Err-NotDefinite g c =
    refused_as c.args.plant (NotDefinite c.in-Err-NotDefinite.pivot) c.refusal.result c.refusal.ensures.status c.refusal.ensures.text
    (not_definite c.in-Err-NotDefinite.pivot (rw c.in-Err-NotDefinite.field-0-is at c.in-Err-NotDefinite.ensures.refused))

pub returns-in-Err-TooWide : goal.returns-in-Err-TooWide
returns-in-Err-TooWide g c =
    refused_as c.args.plant (TooWide c.in-Err-TooWide.place) c.refusal-in-Err-TooWide.result c.refusal-in-Err-TooWide.ensures.status c.refusal-in-Err-TooWide.ensures.text
    (too_wide c.in-Err-TooWide.place (rw c.in-Err-TooWide.field-0-is at c.in-Err-TooWide.ensures.refused))

pub returns-in_ok-text-in-Ok : goal.returns-in_ok-text-in-Ok
returns-in_ok-text-in-Ok g c =
    let made = c.in-Ok.ensures.controller in
    compiled c.in_ok-text-in-Ok.text.items (record { qp = made.0; parts = c.in-Ok.parts; controller = made.1; written = c.in_ok-text-in-Ok.ensures })

use Rattle.mpc_sections.proofs.StepLemmas.{begun_none, begun_next, begun_last}
use Rattle.mpc_sections.proofs.beginnings.begin_all.Goals as goal

pub sections-init : goal.sections-init
sections-init c = begun_none c.args.input.now c.new-begun.result.items c.new-programs.result.items c.new-begun.ensures.items c.new-programs.ensures.items

pub sections-preserved : goal.sections-preserved
sections-preserved c =
    begun_next c.args.input.now c.sections.rest.now c.split_section.result.0.now c.in-Some.after.now c.sections.begun.items c.push.new.self.items c.in_ok-begin.field-0 c.sections.programs.items c.begin.new.programs.items
    c.sections.invariant (rw c.in-Some.is at c.split_section.ensures.sections) c.in_ok-begin.ensures c.in-Ok.ensures.items

pub returns-in-None : goal.returns-in-None
returns-in-None c =
    begun_last c.args.input.now c.sections.rest.now c.split_section.result.0.now c.sections.begun.items c.push.new.self.items c.in_ok-begin.field-0 c.sections.programs.items c.begin.new.programs.items
    c.sections.invariant (rw c.in-None.is at c.split_section.ensures.sections) c.in_ok-begin.ensures c.in-Ok.ensures.items

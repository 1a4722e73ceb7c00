use Rattle.std.proofs.Common.{◌<◌, length, vec_len, arith, rules}
use Rattle.mpc_sections.specs.Sections.{sections_of}
use Rattle.mpc_sections.specs.Steps.{HasRegistry}
use Rattle.mpc_sections.proofs.StepLemmas.{answering_none, answering_next, taken_first, registry_of, not_empty}
use Rattle.mpc_sections.proofs.fleet_answers.answer_all.Goals as goal

pub sections-init : goal.sections-init
sections-init g c = answering_none (sections_of c.args._input.now) c.new-text.result.items c.args.begun.items c.args.registries.items c.new-text.ensures.items c.requires.begun

pub answer_one-requires : goal.answer_one-requires
answer_one-requires g c =
    let some = not_empty (vec_len c.sections.begun) c.is_empty.result c.is_empty.ensures c.sections-test.true in
    let counted = c.sections.begun.ok in
    let more : 0 < length c.sections.begun.items = omega (arith, some, counted) in
    let has : HasRegistry c.remove-first.result c.sections.registries.items =
    registry_of c.sections.invariant.left c.sections.begun.items c.sections.registries.items c.sections.invariant.begins c.remove-first.result c.remove-first.new.self.items
    (taken_first c.sections.begun.items c.remove-first.new.self.items c.remove-first.result c.remove-first.ensures.value c.remove-first.ensures.items more) in
    search rules

pub sections-preserved : goal.sections-preserved
sections-preserved g c =
    let some = not_empty (vec_len c.sections.begun) c.is_empty.result c.is_empty.ensures c.sections-test.true in
    let counted = c.sections.begun.ok in
    let more : 0 < length c.sections.begun.items = omega (arith, some, counted) in
    answering_next (sections_of c.args._input.now) c.sections.number c.sections.text.items c.add_answer.new.text.items c.sections.begun.items c.remove-first.new.self.items c.sections.registries.items c.answer_one.new.registries.items c.remove-first.result
    c.in_ok-answer.answer.status c.in_ok-answer.answer.text.items c.sections.invariant
    (taken_first c.sections.begun.items c.remove-first.new.self.items c.remove-first.result c.remove-first.ensures.value c.remove-first.ensures.items more) c.in_ok-answer.ensures c.in_ok-add_answer.ensures

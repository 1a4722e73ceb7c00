use Rattle.mpc_table.proofs.AnswerLemmas.{shared_from}
use Rattle.mpc_table.proofs.tables.Table.of.Goals as goal

pub invariant_of-result : goal.invariant_of-result
invariant_of-result c =
    shared_from c.args.controller.now c.plant-plant.ensures.controller c.plant-plant.result.now c.laws.result.now c.tree.result.now c.tree-2.result.now c.in_ok-limits.limits c.as_slice.result.now c.in_ok-forms.field-0.forms.items c.in_ok-forms.field-0.laws.items c.in_ok-rows.field-0.rows.items c.in_ok-rows.field-0.steps.items
    c.in_ok-sides.sides.items c.plant-plant.ensures.value c.laws.ensures.value c.tree.ensures.value c.tree-2.ensures.value c.in_ok-limits.ensures c.as_slice.ensures c.in_ok-forms.ensures c.in_ok-rows.ensures c.in_ok-sides.ensures

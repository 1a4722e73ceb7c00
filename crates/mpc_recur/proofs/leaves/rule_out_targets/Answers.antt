use Rattle.std.proofs.Common.{◌≡◌, length, sym, ◌∙◌, ap, subst, arith}
use Rattle.mpc_plant.specs.declared.plants.Plant.{Plant}
use Rattle.mpc_rows.specs.LinearSystem.{LinearSystem}
use Rattle.mpc_recur.specs.Forms.{next_forms, FormsFit}
use Rattle.mpc_recur.specs.Targets.{IsBaseOf}
use Rattle.mpc_controller.specs.Ways.{way_rows}
use Rattle.mpc_recur.proofs.FormLemmas.{forms_size}
use Rattle.mpc_recur.proofs.LeafLemmas.{limits_count, forms_affine, leaf_base, sides_stop, targets_found}
use Rattle.mpc_recur.proofs.TargetLemmas.{met_first}
use Rattle.mpc_recur.proofs.leaves.rule_out_targets.Goals as goal

pub rule_out_sides-requires-clause-sizes : goal.rule_out_sides-requires-clause-sizes
rule_out_sides-requires-clause-sizes c =
    let plant = c.args.controller.now.plant in
    let are : c.as_slice.result.now ≡ next_forms plant c.args.law.now = c.as_slice.ensures.value ∙ c.in-Ok.ensures.value ∙ ap (λ (p : Plant). next_forms p c.args.law.now) c.plant.ensures.value in
    ap length are ∙ forms_size plant c.args.law.now ∙ sym (limits_count plant c.args.limits.now c.requires.limits)

pub rule_out_sides-requires-clause-affine : goal.rule_out_sides-requires-clause-affine
rule_out_sides-requires-clause-affine c =
    let plant = c.args.controller.now.plant in
    let are : c.as_slice.result.now ≡ next_forms plant c.args.law.now = c.as_slice.ensures.value ∙ c.in-Ok.ensures.value ∙ ap (λ (p : Plant). next_forms p c.args.law.now) c.plant.ensures.value in
    forms_affine plant c.args.law.now c.as_slice.result.now are c.in_ok-base.base.width (ap (λ (s : LinearSystem). s.width) c.in_ok-base.ensures ∙ c.in_ok-system.ensures.width ∙ limits_count plant c.args.limits.now c.requires.limits)

pub rule_out_empties-requires-clause-sizes : goal.rule_out_empties-requires-clause-sizes
rule_out_empties-requires-clause-sizes c =
    let plant = c.args.controller.now.plant in
    let are : c.in_ok-met-in-Ok-rule_out_sides.met.forms.items ≡ next_forms plant c.args.law.now = c.in_ok-met-in-Ok-rule_out_sides.ensures.forms ∙ c.in-Ok.ensures.value ∙ ap (λ (p : Plant). next_forms p c.args.law.now) c.plant.ensures.value in
    ap length are ∙ forms_size plant c.args.law.now

pub rule_out_empties-requires-clause-affine : goal.rule_out_empties-requires-clause-affine
rule_out_empties-requires-clause-affine c =
    let plant = c.args.controller.now.plant in
    let are : c.in_ok-met-in-Ok-rule_out_sides.met.forms.items ≡ next_forms plant c.args.law.now = c.in_ok-met-in-Ok-rule_out_sides.ensures.forms ∙ c.in-Ok.ensures.value ∙ ap (λ (p : Plant). next_forms p c.args.law.now) c.plant.ensures.value in
    forms_affine plant c.args.law.now c.in_ok-met-in-Ok-rule_out_sides.met.forms.items are (length c.in_ok-met-in-Ok-rule_out_sides.met.forms.items) (ap length are ∙ forms_size plant c.args.law.now)

pub rule_out_empties-requires-clause-width : goal.rule_out_empties-requires-clause-width
rule_out_empties-requires-clause-width c = ap (λ (s : LinearSystem). s.width) c.in_ok-base.ensures ∙ c.in_ok-system.ensures.width ∙ limits_count c.args.controller.now.plant c.args.limits.now c.requires.limits

pub rule_out_empties-requires-clause-met : goal.rule_out_empties-requires-clause-met
rule_out_empties-requires-clause-met c = met_first c.args.controller.now.tree c.in_ok-met-in-Ok-rule_out_sides.met.forms.items c.in-Ok.forms.items c.in_ok-met-in-Ok-rule_out_sides.met.turns.items c.in_ok-met-in-Ok-rule_out_sides.met.rows c.in_ok-met-in-Ok-rule_out_sides.ensures.forms c.in_ok-met-in-Ok-rule_out_sides.ensures.turns c.in_ok-met-in-Ok-rule_out_sides.ensures.width c.in_ok-met-in-Ok-rule_out_sides.ensures.rows

pub returns-in_ok-met-in-Ok-rule_out_sides : goal.returns-in_ok-met-in-Ok-rule_out_sides
returns-in_ok-met-in-Ok-rule_out_sides c =
    let plant = c.args.controller.now.plant in
    let tree = c.args.controller.now.tree in
    let path = way_rows tree c.args.way.now in
    let law = c.args.law.now in
    let are : c.as_slice.result.now ≡ next_forms plant law = c.as_slice.ensures.value ∙ c.in-Ok.ensures.value ∙ ap (λ (p : Plant). next_forms p law) c.plant.ensures.value in
    let again : c.in_ok-met-in-Ok-rule_out_sides.met.forms.items ≡ next_forms plant law = c.in_ok-met-in-Ok-rule_out_sides.ensures.forms ∙ c.in-Ok.ensures.value ∙ ap (λ (p : Plant). next_forms p law) c.plant.ensures.value in
    let base = subst (IsBaseOf plant path) (sym c.in_ok-base.ensures) (leaf_base plant c.args.limits.now c.requires.limits c.in_ok-system.system c.tree.result.now tree c.args.way.now c.tree.ensures.value c.in_ok-system.ensures.width c.in_ok-system.ensures.rows) in
    targets_found plant tree law path c.args.leaf c.rule_out_empties.result (subst (λ (p : Plant). FormsFit p law) c.plant.ensures.value c.in-Ok.ensures.wide) (c.in-Ok-rule_out_sides.ensures plant law path base are c.requires.limits)
    (c.rule_out_empties.ensures law path base again)

pub returns-in-Err : goal.returns-in-Err
returns-in-Err c =
    let plant = c.args.controller.now.plant in
    let tree = c.args.controller.now.tree in
    let path = way_rows tree c.args.way.now in
    let law = c.args.law.now in
    let are : c.as_slice.result.now ≡ next_forms plant law = c.as_slice.ensures.value ∙ c.in-Ok.ensures.value ∙ ap (λ (p : Plant). next_forms p law) c.plant.ensures.value in
    let base = subst (IsBaseOf plant path) (sym c.in_ok-base.ensures) (leaf_base plant c.args.limits.now c.requires.limits c.in_ok-system.system c.tree.result.now tree c.args.way.now c.tree.ensures.value c.in_ok-system.ensures.width c.in_ok-system.ensures.rows) in
    sides_stop plant tree law path c.args.leaf (subst (λ (p : Plant). FormsFit p law) c.plant.ensures.value c.in-Ok.ensures.wide) c.in-Err.stop (c.in-Err.ensures plant law path base are c.requires.limits)

pub new-requires : goal.new-requires
new-requires c =
    let plant = c.args.controller.now.plant in
    let size : length c.in-Ok.forms.items ≡ plant.n = ap length (c.in-Ok.ensures.value ∙ ap (λ (p : Plant). next_forms p c.args.law.now) c.plant.ensures.value) ∙ forms_size plant c.args.law.now in
    let most = plant.is_plant.states.to_high in
    omega (arith, size, most)

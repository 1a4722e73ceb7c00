use Rattle.std.proofs.Common.{◌≡◌, ◌-◌, ◌<◌, ◌≤◌, arith, length, get_or, sym, ◌∙◌, subst}
use Rattle.std.proofs.lemmas.Grind.{common_steps}
use Rattle.mpc_table.specs.Forms.{AreUpTo}
use Rattle.mpc_table.specs.Lookup.{Lookup, IsTableOf, AreLawForms}
use Rattle.mpc_table.specs.SharedForms.{all_forms_at}
use Rattle.mpc_table.proofs.ReadLemmas.{input_inside, place_inside, input_bounded, input_value}
use Rattle.mpc_table.proofs.ReplyLemmas.{reread}
use Rattle.mpc_table.proofs.tables.Table.move_at.Goals as goal

pub bounds-places-input : goal.bounds-places-input
bounds-places-input c =
    let t = c.self.inside in
    let law_in : c.args.law ≤ length (all_forms_at t.forms.items t.laws.items) = subst (λ (x : Lookup). c.args.law ≤ length x.laws) (sym c.self.view_is) c.requires.to_last_law in
    let input_in : c.args.input ≤ t.inputs = subst (λ (x : Lookup). c.args.input ≤ x.inputs) (sym c.self.view_is) c.requires.to_last_input in
    let up : AreUpTo c.args.counts.now t.limits = subst (λ (x : Lookup). AreUpTo c.args.counts.now x.limits) (sym c.self.view_is) c.requires.inside in
    let read : c.as_slice-places.result.now ≡ get_or t.laws.items (c.args.law - 1) c.as_slice-places.result.now = reread t.laws.items (c.args.law - 1) c.index.result.now c.as_slice-places.result.now c.as_slice-places.ensures c.index.ensures in
    input_inside t.limits c.args.counts.now t.inputs t.forms.items t.laws.items c.self.invariant.lookup.forms c.self.invariant.forms_named up c.args.law c.requires.from_first_law law_in c.as_slice-places.result.now read c.args.input c.requires.from_first_input input_in

pub index-requires-2 : goal.index-requires-2
index-requires-2 c =
    let t = c.self.inside in
    let law_in : c.args.law ≤ length (all_forms_at t.forms.items t.laws.items) = subst (λ (x : Lookup). c.args.law ≤ length x.laws) (sym c.self.view_is) c.requires.to_last_law in
    let input_in : c.args.input ≤ t.inputs = subst (λ (x : Lookup). c.args.input ≤ x.inputs) (sym c.self.view_is) c.requires.to_last_input in
    let up : AreUpTo c.args.counts.now t.limits = subst (λ (x : Lookup). AreUpTo c.args.counts.now x.limits) (sym c.self.view_is) c.requires.inside in
    let read : c.as_slice-places.result.now ≡ get_or t.laws.items (c.args.law - 1) c.as_slice-places.result.now = reread t.laws.items (c.args.law - 1) c.index.result.now c.as_slice-places.result.now c.as_slice-places.ensures c.index.ensures in
    let below : get_or c.as_slice-places.result.now (c.args.input - 1) 0 < length t.forms.items =
    place_inside t.limits c.args.counts.now t.inputs t.forms.items t.laws.items c.self.invariant.lookup.forms c.self.invariant.forms_named up c.args.law c.requires.from_first_law law_in c.as_slice-places.result.now read c.args.input c.requires.from_first_input input_in in
    grind (arith, common_steps, below)

pub value_at-requires : goal.value_at-requires
value_at-requires c =
    let t = c.self.inside in
    let law_in : c.args.law ≤ length (all_forms_at t.forms.items t.laws.items) = subst (λ (x : Lookup). c.args.law ≤ length x.laws) (sym c.self.view_is) c.requires.to_last_law in
    let input_in : c.args.input ≤ t.inputs = subst (λ (x : Lookup). c.args.input ≤ x.inputs) (sym c.self.view_is) c.requires.to_last_input in
    let up : AreUpTo c.args.counts.now t.limits = subst (λ (x : Lookup). AreUpTo c.args.counts.now x.limits) (sym c.self.view_is) c.requires.inside in
    let read : c.as_slice-places.result.now ≡ get_or t.laws.items (c.args.law - 1) c.as_slice-places.result.now = reread t.laws.items (c.args.law - 1) c.index.result.now c.as_slice-places.result.now c.as_slice-places.ensures c.index.ensures in
    input_bounded t.limits c.args.counts.now t.inputs t.forms.items t.laws.items c.self.invariant.lookup.forms c.self.invariant.forms_named up c.args.law c.requires.from_first_law law_in c.as_slice-places.result.now read c.args.input c.requires.from_first_input input_in c.index-2.result.now c.index-2.ensures

pub returns : goal.returns
returns c = λ parts of_set is_table numbered.
    let t = c.self.inside in
    let law_in : c.args.law ≤ length (all_forms_at t.forms.items t.laws.items) = subst (λ (x : Lookup). c.args.law ≤ length x.laws) (sym c.self.view_is) c.requires.to_last_law in
    let input_in : c.args.input ≤ t.inputs = subst (λ (x : Lookup). c.args.input ≤ x.inputs) (sym c.self.view_is) c.requires.to_last_input in
    let up : AreUpTo c.args.counts.now t.limits = subst (λ (x : Lookup). AreUpTo c.args.counts.now x.limits) (sym c.self.view_is) c.requires.inside in
    let read : c.as_slice-places.result.now ≡ get_or t.laws.items (c.args.law - 1) c.as_slice-places.result.now = reread t.laws.items (c.args.law - 1) c.index.result.now c.as_slice-places.result.now c.as_slice-places.ensures c.index.ensures in
    let of_parts = subst (IsTableOf parts) (sym c.self.view_is) is_table in
    let laws_are : AreLawForms t.inputs parts.laws (all_forms_at t.forms.items t.laws.items) = subst (λ p. AreLawForms p parts.laws (all_forms_at t.forms.items t.laws.items)) (sym of_parts.inputs_are) of_parts.laws_are in
    c.value_at.ensures
    ∙ input_value t.limits c.args.counts.now t.inputs t.forms.items t.laws.items c.self.invariant.lookup.forms c.self.invariant.forms_named up c.args.law c.requires.from_first_law law_in c.as_slice-places.result.now read c.args.input c.requires.from_first_input input_in c.index-2.result.now c.index-2.ensures parts.laws of_set laws_are numbered

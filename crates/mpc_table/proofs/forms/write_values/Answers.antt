use Rattle.std.proofs.Common.{◌≡◌, ◌<◌, length, get_or, sym, subst, arith}
use Rattle.std.proofs.lemmas.List.{length-map}
use Rattle.mpc_table.specs.Forms.{IsBounded}
use Rattle.mpc_table.specs.SharedForms.{form_at, forms_at}
use Rattle.mpc_table.proofs.TableLemmas.{values_next}
use Rattle.mpc_table.proofs.SharedFormLemmas.{form_read}
use Rattle.mpc_table.proofs.forms.write_values.Goals as goal

pub value_at-requires : goal.value_at-requires
value_at-requires c =
    let inside : c.loop-i.i < length c.args.places.now = omega arith in
    let within : c.loop-i.i < length (forms_at c.args.forms.now c.args.places.now) = subst (λ n. c.loop-i.i < n) (sym (length-map c.args.places.now (form_at c.args.forms.now))) inside in
    let form_is : c.index-forms-places.result ≡ get_or (forms_at c.args.forms.now c.args.places.now) c.loop-i.i c.index-forms-places.result = form_read c.args.forms.now c.args.places.now c.loop-i.i c.index-forms-places.result c.requires.below inside c.index-forms-places.is in
    subst (IsBounded c.args.counts.now) (sym form_is) (c.requires.bounded c.loop-i.i c.index-forms-places.result within)

pub loop-i-preserved : goal.loop-i-preserved
loop-i-preserved c =
    let inside : c.loop-i.i < length c.args.places.now = omega arith in
    let within : c.loop-i.i < length (forms_at c.args.forms.now c.args.places.now) = subst (λ n. c.loop-i.i < n) (sym (length-map c.args.places.now (form_at c.args.forms.now))) inside in
    let form_is : c.index-forms-places.result ≡ get_or (forms_at c.args.forms.now c.args.places.now) c.loop-i.i c.index-forms-places.result = form_read c.args.forms.now c.args.places.now c.loop-i.i c.index-forms-places.result c.requires.below inside c.index-forms-places.is in
    values_next (forms_at c.args.forms.now c.args.places.now) c.args.counts.now c.loop-i.i c.index-forms-places.result c.args.out.now.items c.loop-i.out.items c.write_next.new.out.items c.value_at.result within form_is c.loop-i.invariant c.in-Ok.ensures.ok c.value_at.ensures

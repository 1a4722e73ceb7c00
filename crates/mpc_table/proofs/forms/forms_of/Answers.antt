use Rattle.std.proofs.Common.{sym, subst, take, arith}
use Rattle.mpc_table.specs.SharedForms.{AreFormPlaces}
use Rattle.mpc_table.proofs.SharedFormLemmas.{forms_none, form_places_next}
use Rattle.mpc_table.proofs.KeptForms.{kept_grown, kept_behind}
use Rattle.mpc_table.proofs.forms.forms_of.Goals as goal

pub loop-i-init : goal.loop-i-init
loop-i-init c =
    subst (AreFormPlaces c.args.counts.now (take 0 c.args.law.now.moves.rows) 0 c.args.forms.now.items c.args.forms.now.items c.args.lines.now) (sym c.new-places.ensures)
    (forms_none c.args.counts.now c.args.law.now.moves.rows c.args.forms.now.items c.args.lines.now c.requires.kept)

pub keep_form-requires : goal.keep_form-requires
keep_form-requires c = c.loop-i.invariant.lines_are

pub loop-i-preserved : goal.loop-i-preserved
loop-i-preserved c =
    form_places_next c.args.counts.now c.args.law.now.moves.rows c.loop-i.i _ _ _ _ _ _ _ _ _ _ (omega arith) c.row.ensures c.in_ok-form.ensures.value c.in_ok-form.ensures.bounded c.in_ok-push.ensures.ok c.loop-i.invariant c.in_ok-place.ensures.place

pub returns-in_err-form-clause-forms_kept : goal.returns-in_err-form-clause-forms_kept
returns-in_err-form-clause-forms_kept c = kept_grown _ _ _ c.loop-i.invariant.grown

pub returns-in_err-place-clause-forms_kept : goal.returns-in_err-place-clause-forms_kept
returns-in_err-place-clause-forms_kept c = kept_behind _ _ _ _ c.loop-i.invariant.grown c.keep_form.ensures.kept

pub returns-in_err-push-clause-forms_kept : goal.returns-in_err-push-clause-forms_kept
returns-in_err-push-clause-forms_kept c = kept_behind _ _ _ _ c.loop-i.invariant.grown c.keep_form.ensures.kept

pub returns-clause-forms_kept : goal.returns-clause-forms_kept
returns-clause-forms_kept c = kept_grown _ _ _ c.loop-i.invariant.grown

use Rattle.mpc_recur.proofs.FormLemmas.{FormSo}
use Rattle.mpc_recur.proofs.forms.next_form.Given as goal

abbrev pub invariant-loop-term : goal.invariant-loop-term
invariant-loop-term l = FormSo l.plant l.law l.index l.term l.form

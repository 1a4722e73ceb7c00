use Rattle.mpc_recur.proofs.FormLemmas.{FormsSo}
use Rattle.mpc_recur.proofs.forms.next_forms.Given as goal

abbrev pub invariant-loop-index : goal.invariant-loop-index
invariant-loop-index l = FormsSo l.plant l.law l.index l.forms.items

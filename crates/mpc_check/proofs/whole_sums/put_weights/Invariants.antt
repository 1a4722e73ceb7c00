use Rattle.mpc_check.proofs.WeightLemmas.{AreFirst}
use Rattle.mpc_check.proofs.whole_sums.put_weights.Given as goal

abbrev pub invariant-loop-at_entry : goal.invariant-loop-at_entry
invariant-loop-at_entry l = AreFirst l.cert l.all l.list l.at_entry

use Rattle.mpc_rows.proofs.ColumnLemmas.{NoneBefore}
use Rattle.mpc_rows.proofs.refuting.weighs_strict.Given as goal

abbrev pub invariant-loop-i : goal.invariant-loop-i
invariant-loop-i l = NoneBefore l.system l.multipliers l.i

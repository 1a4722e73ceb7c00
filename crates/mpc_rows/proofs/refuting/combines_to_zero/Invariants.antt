use Rattle.mpc_rows.proofs.ColumnLemmas.{ColumnsSo}
use Rattle.mpc_rows.proofs.refuting.combines_to_zero.Given as goal

abbrev pub invariant-loop-unknown : goal.invariant-loop-unknown
invariant-loop-unknown l = ColumnsSo l.system l.multipliers l.unknown l.zero

use Rattle.mpc_rows.proofs.LawRowLemmas.{SidesSo}
use Rattle.mpc_rows.proofs.law_rows.sides.Given as goal

abbrev pub invariant-loop-column : goal.invariant-loop-column
invariant-loop-column l = SidesSo l.qp l.law l.row l.column l.sides

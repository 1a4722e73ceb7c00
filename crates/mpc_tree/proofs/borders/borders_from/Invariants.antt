use Rattle.mpc_tree.proofs.BorderLists.{AreFirstBorders}
use Rattle.mpc_tree.proofs.borders.borders_from.Given as goal

abbrev pub invariant-loop-i : goal.invariant-loop-i
invariant-loop-i l = AreFirstBorders l.qp l.laws l.i l.borders.items

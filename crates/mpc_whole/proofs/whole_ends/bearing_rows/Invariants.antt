use Rattle.mpc_whole.proofs.BearingRows.{AreBorne}
use Rattle.mpc_whole.proofs.whole_ends.bearing_rows.Given as goal

abbrev pub invariant-loop-column : goal.invariant-loop-column
invariant-loop-column l = AreBorne l.system l.numbers.a.now l.lists.numbers.items l.lists.nonbasic.items l.side l.first l.column l.most

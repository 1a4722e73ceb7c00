use Rattle.mpc_systems.specs.Systems.{hold_system}
use Rattle.mpc_controller.specs.Ways.{way_rows}
use Rattle.mpc_check.proofs.ColumnSums.{SumSo}
use Rattle.mpc_check.proofs.whole_sums.column_sum.Given as goal

abbrev pub invariant-loop-at_entry : goal.invariant-loop-at_entry
invariant-loop-at_entry l = SumSo l.column (hold_system l.qp (way_rows l.tree l.way) l.row) l.cert l.numerators.all l.at_entry l.total

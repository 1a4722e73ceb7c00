use Rattle.mpc_systems.specs.Systems.{hold_system}
use Rattle.mpc_check.specs.Picks.{picked_rows, weights}
use Rattle.mpc_controller.specs.Ways.{way_rows}
use Rattle.mpc_check.proofs.ColumnSums.{ColumnsSo}
use Rattle.mpc_check.proofs.whole_sums.combines_to_zero.Given as goal

abbrev pub invariant-loop-unknown : goal.invariant-loop-unknown
invariant-loop-unknown l = ColumnsSo (picked_rows (hold_system l.qp (way_rows l.tree l.way) l.row).rows l.cert) (weights l.cert) l.unknown l.zero

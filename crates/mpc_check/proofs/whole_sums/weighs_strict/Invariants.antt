use Rattle.mpc_systems.specs.Systems.{hold_system}
use Rattle.mpc_check.specs.Picks.{picked_rows, weights}
use Rattle.mpc_controller.specs.Ways.{way_rows}
use Rattle.mpc_check.proofs.ColumnSums.{NoneBefore}
use Rattle.mpc_check.proofs.whole_sums.weighs_strict.Given as goal

abbrev pub invariant-loop-at_entry : goal.invariant-loop-at_entry
invariant-loop-at_entry l = NoneBefore (picked_rows (hold_system l.qp (way_rows l.tree l.way) l.row).rows l.cert) (weights l.cert) l.at_entry

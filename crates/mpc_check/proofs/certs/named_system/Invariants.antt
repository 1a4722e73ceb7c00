use Rattle.std.proofs.Common.{◌≡◌, ◌+◌, length, take}
use Rattle.mpc_check.specs.Picks.{picked_rows}
use Rattle.mpc_check.specs.LeafSystems.{system_at}
use Rattle.mpc_check.proofs.certs.named_system.Given as goal

abbrev pub invariant-loop-i : goal.invariant-loop-i
invariant-loop-i l = record {
  width : l.system.width ≡ length l.qp.counts + l.more;
  rows : l.system.rows ≡ picked_rows (system_at l.qp l.cell.tree.now l.cell.way.now l.more l.last).rows (take l.i l.entries);
}

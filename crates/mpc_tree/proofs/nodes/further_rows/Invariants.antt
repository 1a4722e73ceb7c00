use Rattle.std.proofs.Common.{◌-◌, drop}
use Rattle.mpc_tree.specs.Cells.{NoneFailsBefore}
use Rattle.mpc_tree.specs.LeafCerts.{AreCertsOf}
use Rattle.mpc_tree.specs.CellRuns.{IsOpenAt}
use Rattle.mpc_tree.specs.NodeRuns.{HoldsFit}
use Rattle.mpc_tree.proofs.nodes.further_rows.Given as goal

abbrev pub invariant-loop-place : goal.invariant-loop-place
invariant-loop-place l = record {
  none : NoneFailsBefore l.qp l.rows l.cell.rows.items l.place;
  certs_are : AreCertsOf l.qp l.cell.rows.items (drop l.fn.met.held l.rows) (l.place - l.fn.met.held) l.certs;
  fits : HoldsFit l.qp l.cell.rows.items l.rows l.place;
  opened : IsOpenAt l.cell.run l.work;
}

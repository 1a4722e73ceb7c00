use Rattle.mpc_tree.specs.LeafCerts.{AreCertsOf}
use Rattle.mpc_tree.specs.CellRuns.{IsOpenAt}
use Rattle.mpc_tree.proofs.nodes.first_certs.Given as goal

abbrev pub invariant-loop-place : goal.invariant-loop-place
invariant-loop-place l = record {
  certs_are : AreCertsOf l.qp l.cell.rows.items l.rows l.place l.certs;
  opened : IsOpenAt l.cell.run l.work;
}

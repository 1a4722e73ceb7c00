use Rattle.mpc_check.specs.Borders.{AreFormed}
use Rattle.mpc_check.specs.Findings.{Each}
use Rattle.mpc_check.specs.LeafConditions.{LeafRowMet}
use Rattle.mpc_controller.specs.Ways.{way_rows}
use Rattle.mpc_rows.specs.declared.laws.Law.{Law}
use Rattle.mpc_check.proofs.leaves.search_law_leaf.Given as goal

abbrev pub invariant-loop-at_row : goal.invariant-loop-at_row
invariant-loop-at_row l = (law : Law) → AreFormed l.qp law l.rows → Each (LeafRowMet l.qp (way_rows l.cell.tree.now l.cell.way.now) law l.certs) l.at_row

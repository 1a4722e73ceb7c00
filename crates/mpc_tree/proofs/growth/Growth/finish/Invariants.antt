use Rattle.std.proofs.Common.{◌<◌, length}
use Rattle.mpc_space.specs.Matrix.{height}
use Rattle.mpc_tree.specs.CellRuns.{IsRunOf}
use Rattle.mpc_tree.specs.Growth.{MeetsNext}
use Rattle.mpc_tree.specs.Missed.{IsSearchOf}
use Rattle.mpc_tree.proofs.Ending.{weights}
use Rattle.mpc_tree.proofs.Growing.{IsGrown}
use Rattle.mpc_tree.proofs.growth.Growth.finish.Given as goal

abbrev pub invariant-nodes : goal.invariant-nodes
invariant-nodes l = record {
  grown : IsGrown l.qp l.laws (record { rows = l.fn.self.cell.rows.items; next = l.fn.self.next }) l.borders l.self.tree (record { rows = l.self.cell.rows.items; next = l.self.next }) l.self.sides.items l.self.held;
  known : 0 < l.self.held → MeetsNext l.qp l.laws (record { rows = l.self.cell.rows.items; next = l.self.next });
  run : IsRunOf l.qp l.self.cell.rows.items l.self.cell.run;
  kept : IsSearchOf l.qp l.borders l.self.cell.rows.items l.kept;
}

abbrev pub decreases-nodes : goal.decreases-nodes
decreases-nodes l = weights (length l.laws) (height l.qp.g) l.self.next l.self.held l.self.sides.items

use Rattle.std.proofs.Common.{◌≡◌, ◌+◌, length}
use Rattle.mpc_space.specs.Matrix.{height}
use Rattle.mpc_region.specs.Sweeps.{rights}
use Rattle.mpc_region.specs.SweptRows.{number_from}
use Rattle.mpc_region.proofs.SweptRows.{HasFilled}
use Rattle.mpc_region.proofs.rows.fill_rows.Given as goal

abbrev pub invariant-loop-row : goal.invariant-loop-row
invariant-loop-row l = record {
  filled : HasFilled (λ r. number_from l.table (height l.qp.h + r) (rights l.qp)) (length l.qp.counts) l.row l.lines.rows;
  sides : length l.lines.sides.items ≡ length l.qp.counts;
}

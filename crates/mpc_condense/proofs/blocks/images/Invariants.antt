use Rattle.mpc_space.specs.Vector.{dot}
use Rattle.mpc_space.specs.Matrix.{height}
use Rattle.mpc_linear.specs.Dot.{DotFits}
use Rattle.mpc_linear.specs.Entries.{zero_matrix}
use Rattle.mpc_condense.specs.Blocks.{row_at, WritesBlock, AllInBlock}
use Rattle.mpc_condense.proofs.blocks.images.Given as goal

abbrev pub invariant-loop-at_row : goal.invariant-loop-at_row
invariant-loop-at_row l = record {
  written : WritesBlock (zero_matrix (height l.vectors) (height l.matrix)) l.out 0 l.at_row 0 (height l.matrix) (λ a b. dot (row_at l.matrix b) (row_at l.vectors a));
  fits : AllInBlock 0 l.at_row 0 (height l.matrix) (λ a b. DotFits (row_at l.matrix b) (row_at l.vectors a));
}

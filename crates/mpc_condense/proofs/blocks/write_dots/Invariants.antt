use Rattle.std.proofs.Common.{◌+◌}
use Rattle.mpc_space.specs.Vector.{dot}
use Rattle.mpc_linear.specs.Dot.{DotFits}
use Rattle.mpc_condense.specs.Blocks.{row_at, WritesBlock, AllInBlock}
use Rattle.mpc_condense.proofs.blocks.write_dots.Given as goal

abbrev pub invariant-loop-column : goal.invariant-loop-column
invariant-loop-column l = record {
  written : WritesBlock l.fn.out l.out l.at_row (l.at_row + 1) 0 l.column (λ _ b. dot (row_at l.matrix b) l.vector);
  fits : AllInBlock l.at_row (l.at_row + 1) 0 l.column (λ _ b. DotFits (row_at l.matrix b) l.vector);
}

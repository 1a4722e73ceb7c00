use Rattle.std.proofs.Common.{◌+◌}
use Rattle.mpc_exact.specs.Rational.{◌+ℚ◌}
use Rattle.mpc_frac.specs.Fits.{FitsSum}
use Rattle.mpc_space.specs.Vector.{dot}
use Rattle.mpc_space.specs.Matrix.{entry}
use Rattle.mpc_linear.specs.Dot.{DotFits}
use Rattle.mpc_condense.specs.Blocks.{row_at, WritesBlock, AllInBlock}
use Rattle.mpc_condense.proofs.blocks.add_dots.Given as goal

abbrev pub invariant-loop-column : goal.invariant-loop-column
invariant-loop-column l = record {
  written : WritesBlock l.fn.out l.out l.at_row (l.at_row + 1) 0 l.column (λ a b. entry l.fn.out a b +ℚ dot l.vector (row_at l.matrix b));
  fits : AllInBlock l.at_row (l.at_row + 1) 0 l.column (λ a b. DotFits l.vector (row_at l.matrix b) × FitsSum (entry l.fn.out a b) (dot l.vector (row_at l.matrix b)));
}

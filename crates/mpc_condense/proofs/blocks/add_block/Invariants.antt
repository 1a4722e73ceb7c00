use Rattle.std.proofs.Common.{◌+◌, ◌-◌}
use Rattle.mpc_exact.specs.Rational.{◌+ℚ◌}
use Rattle.mpc_frac.specs.Fits.{FitsSum}
use Rattle.mpc_space.specs.Matrix.{entry}
use Rattle.mpc_condense.specs.Blocks.{WritesBlock, AllInBlock}
use Rattle.mpc_condense.proofs.blocks.add_block.Given as goal

abbrev pub invariant-loop-at_row : goal.invariant-loop-at_row
invariant-loop-at_row l = record {
  written : WritesBlock l.fn.out l.out l.first (l.first + l.at_row) l.first (l.first + l.matrix.columns) (λ a b. entry l.fn.out a b +ℚ entry l.matrix (a - l.first) (b - l.first));
  fits : AllInBlock l.first (l.first + l.at_row) l.first (l.first + l.matrix.columns) (λ a b. FitsSum (entry l.fn.out a b) (entry l.matrix (a - l.first) (b - l.first)));
}

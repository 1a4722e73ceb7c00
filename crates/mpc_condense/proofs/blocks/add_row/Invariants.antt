use Rattle.std.proofs.Common.{◌+◌, ◌-◌}
use Rattle.mpc_exact.specs.Rational.{◌+ℚ◌}
use Rattle.mpc_frac.specs.Fits.{FitsSum}
use Rattle.mpc_space.specs.Matrix.{entry}
use Rattle.mpc_condense.specs.Blocks.{WritesBlock, AllInBlock}
use Rattle.mpc_condense.proofs.blocks.add_row.Given as goal

abbrev pub invariant-loop-column : goal.invariant-loop-column
invariant-loop-column l = record {
  written : WritesBlock l.fn.out l.out (l.first + l.at_row) (l.first + l.at_row + 1) l.first (l.first + l.column) (λ a b. entry l.fn.out a b +ℚ entry l.matrix (a - l.first) (b - l.first));
  fits : AllInBlock (l.first + l.at_row) (l.first + l.at_row + 1) l.first (l.first + l.column) (λ a b. FitsSum (entry l.fn.out a b) (entry l.matrix (a - l.first) (b - l.first)));
}

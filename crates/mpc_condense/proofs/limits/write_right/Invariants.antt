use Rattle.std.proofs.Common.{◌+◌}
use Rattle.mpc_exact.specs.Rational.{◌-ℚ◌, neg_ℚ}
use Rattle.mpc_frac.specs.Fits.{FitsSum}
use Rattle.mpc_space.specs.Vector.{dot}
use Rattle.mpc_linear.specs.Dot.{DotFits}
use Rattle.mpc_condense.specs.Motion.{bound_of}
use Rattle.mpc_condense.specs.Blocks.{row_at, WritesBlock, AllInBlock}
use Rattle.mpc_condense.proofs.limits.write_right.Given as goal

abbrev pub invariant-loop-column : goal.invariant-loop-column
invariant-loop-column l = record {
  written : WritesBlock l.fn.out l.out l.at_row (l.at_row + 1) 0 l.column (λ _ b. bound_of l.row b -ℚ dot (row_at l.from_counts b) l.row.x);
  fits : AllInBlock l.at_row (l.at_row + 1) 0 l.column (λ _ b. DotFits (row_at l.from_counts b) l.row.x × FitsSum (bound_of l.row b) (neg_ℚ (dot (row_at l.from_counts b) l.row.x)));
}

use Rattle.mpc_exact.specs.Rational.{◌+ℚ◌}
use Rattle.mpc_frac.specs.Fits.{FitsSum}
use Rattle.mpc_space.specs.Vector.{dot}
use Rattle.mpc_space.specs.Matrix.{entry}
use Rattle.mpc_linear.specs.Dot.{DotFits}
use Rattle.mpc_condense.specs.Blocks.{row_at, WritesBlock, AllInBlock}
use Rattle.mpc_condense.proofs.blocks.add_products.Given as goal

abbrev pub invariant-loop-at_row : goal.invariant-loop-at_row
invariant-loop-at_row l = record {
  written : WritesBlock l.fn.out l.out 0 l.at_row 0 l.count (λ a b. entry l.fn.out a b +ℚ dot (row_at l.left a) (row_at l.right b));
  fits : AllInBlock 0 l.at_row 0 l.count (λ a b. DotFits (row_at l.left a) (row_at l.right b) × FitsSum (entry l.fn.out a b) (dot (row_at l.left a) (row_at l.right b)));
}

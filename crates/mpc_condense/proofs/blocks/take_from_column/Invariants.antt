use Rattle.std.proofs.Common.{◌+◌, ◌-◌}
use Rattle.mpc_exact.specs.Rational.{◌-ℚ◌, neg_ℚ}
use Rattle.mpc_frac.specs.Fits.{FitsSum}
use Rattle.mpc_space.specs.Vector.{coordinate}
use Rattle.mpc_space.specs.Matrix.{entry}
use Rattle.mpc_condense.specs.Blocks.{WritesBlock, AllInBlock}
use Rattle.mpc_condense.proofs.blocks.take_from_column.Given as goal

abbrev pub invariant-loop-i : goal.invariant-loop-i
invariant-loop-i l = record {
  written : WritesBlock l.fn.out l.out l.first (l.first + l.i) 0 1 (λ a b. entry l.fn.out a b -ℚ coordinate l.vector (a - l.first));
  fits : AllInBlock l.first (l.first + l.i) 0 1 (λ a b. FitsSum (entry l.fn.out a b) (neg_ℚ (coordinate l.vector (a - l.first))));
}

use Rattle.std.proofs.Common.{◌≡◌}
use Rattle.mpc_minors.specs.Sizes.{most_determinant}
use Rattle.mpc_minors.proofs.determinant_bound.Given as goal

abbrev pub invariant-loop-row : goal.invariant-loop-row
invariant-loop-row l = l.size ≡ most_determinant l.row l.entry

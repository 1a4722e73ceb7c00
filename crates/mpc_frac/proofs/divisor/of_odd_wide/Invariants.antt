use Rattle.std.proofs.Common.{◌≡◌, ◌+◌, ◌%◌}
use Rattle.mpc_exact.specs.Gcd.{gcd}
use Rattle.mpc_frac.proofs.divisor.of_odd_wide.Given as goal

abbrev pub invariant-steps : goal.invariant-steps
invariant-steps l = record {
  x_odd : l.left % 2 ≡ 1;
  y_odd : l.right % 2 ≡ 1;
  same : gcd l.left l.right ≡ gcd l.fn.left l.fn.right;
}

abbrev pub decreases-steps : goal.decreases-steps
decreases-steps l = l.left + l.right

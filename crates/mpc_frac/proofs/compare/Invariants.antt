use Rattle.std.proofs.Common.{◌≡◌, ◌+◌, ◌*◌, ◌<◌, nat_cmp}
use Rattle.mpc_frac.proofs.compare.Given as goal

abbrev pub invariant-turns : goal.invariant-turns
invariant-turns l = record {
  b_some : 0 < l.left_den;
  d_some : 0 < l.right_den;
  same : nat_cmp (l.left_num * l.right_den) (l.right_num * l.left_den) ≡ nat_cmp (l.fn.left_num * l.fn.right_den) (l.fn.right_num * l.fn.left_den);
}

abbrev pub decreases-turns : goal.decreases-turns
decreases-turns l = l.left_den + l.right_den

use Rattle.std.proofs.Common.{◌+◌, ◌*◌, ◌≤◌, unsigned_abs}
use Rattle.mpc_wholes.proofs.WholeDots.{DotSoFar}
use Rattle.mpc_wholes.proofs.sums.dot_within.Given as goal

abbrev pub invariant-loop-k : goal.invariant-loop-k
invariant-loop-k l = record {
  within : l.k ≤ l.span.end;
  size : unsigned_abs l.total ≤ unsigned_abs l.fn.start + l.k * (l.left.most * l.right.most);
  so_far : DotSoFar l.left l.right l.count l.fn.start l.k l.total;
}

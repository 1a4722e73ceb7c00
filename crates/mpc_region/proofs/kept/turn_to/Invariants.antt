use Rattle.std.proofs.Common.{◌≡◌, vec_len}
use Rattle.mpc_region.specs.Kept.{IsKept}
use Rattle.mpc_region.proofs.kept.turn_to.Given as goal

abbrev pub invariant-loop-count : goal.invariant-loop-count
invariant-loop-count l = record {
  kept : IsKept l.qp l.kept;
  set : l.kept.set ≡ l.fn.set;
  count : vec_len l.kept.reaches ≡ l._count;
}

use Rattle.std.proofs.Common.{◌≡◌, ◌≤◌, vec_len}
use Rattle.mpc_check.specs.Stretches.{AreNeighbours}
use Rattle.mpc_check.proofs.stretches.stretches.Given as goal

abbrev pub invariant-loop-k : goal.invariant-loop-k
invariant-loop-k l = record {
  cut : AreNeighbours 0 l.from l.stretches.items;
  below : l.from ≤ l.places;
  so_many : vec_len l.stretches ≡ l.k;
  last : l.k ≡ l.count → l.from ≡ l.places;
}

use Rattle.std.proofs.Common.{◌≡◌, ◌≤◌, length, take}
use Rattle.mpc_tree.specs.LeafCerts.{nonzero_from}
use Rattle.mpc_tree.proofs.certs.nonzero_count.Given as goal

abbrev pub invariant-loop-index : goal.invariant-loop-index
invariant-loop-index l = record {
  is : l.count ≡ length (nonzero_from 1 (take l.index l.multipliers));
  within : l.count ≤ l.index;
}

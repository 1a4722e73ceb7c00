use Rattle.std.proofs.Common.{◌≡◌, take}
use Rattle.mpc_tree.specs.LeafCerts.{nonzero_from}
use Rattle.mpc_tree.proofs.certs.cert_of.Given as goal

abbrev pub invariant-loop-index : goal.invariant-loop-index
invariant-loop-index l = l.cert ≡ nonzero_from 1 (take l.index l.multipliers)

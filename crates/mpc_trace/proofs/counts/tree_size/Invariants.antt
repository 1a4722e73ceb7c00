use Rattle.std.proofs.Common.{◌≡◌, drop}
use Rattle.mpc_trace.specs.SearchTree.{SearchTree, preorder}
use Rattle.mpc_trace.proofs.TreeLemmas.{IsOwed}
use Rattle.mpc_trace.proofs.counts.tree_size.Given as goal

abbrev pub invariant-loop-node : goal.invariant-loop-node
invariant-loop-node l = (whole : SearchTree) → l.node-items ≡ preorder whole → IsOwed whole (drop l.node-index l.node-items) l.owed.items l.leaves l.depth l.node-index

use Rattle.std.proofs.Common.{arith}
use Rattle.mpc_controller.specs.Bounds.{NodeFits}
use Rattle.mpc_controller.proofs.BoundLemmas.{all_next, all_done}
use Rattle.mpc_controller.proofs.bounds.first_wide_node.Goals as goal

pub loop-place-preserved : goal.loop-place-preserved
loop-place-preserved c = all_next (NodeFits c.args.counts.now) c.args.tree.now c.loop-place.place c.at.result.now c.at.ensures c.loop-place.invariant (c.node_fits.ensures.0 c.if-not-node_fits.false)

pub returns : goal.returns
returns c = all_done (NodeFits c.args.counts.now) c.args.tree.now c.loop-place.place (omega arith) c.loop-place.invariant

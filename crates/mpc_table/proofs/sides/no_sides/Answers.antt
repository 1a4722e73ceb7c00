use Rattle.std.proofs.Common.{arith}
use Rattle.mpc_table.proofs.LeafLemmas.{sides_all}
use Rattle.mpc_table.proofs.sides.no_sides.Goals as goal

pub returns : goal.returns
returns c = sides_all c.args.tree.now c.loop-place.place c.loop-place.sides.items c.loop-place.pending.items c.loop-place.invariant (omega arith) (omega arith)

use Rattle.mpc_tree.proofs.BorderLists.{borders_more}
use Rattle.mpc_tree.proofs.borders.borders_from.Goals as goal

pub loop-i-preserved : goal.loop-i-preserved
loop-i-preserved c = borders_more c.args.qp.now c.args.laws.now c.loop-i.i c.loop-i.borders.items c.push.new.self.items c.at.result.now c.in_ok-rows.rows c.loop-i.invariant c.at.ensures c.in_ok-rows.ensures c.in-Ok.ensures.items

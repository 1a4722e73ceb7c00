use Rattle.std.proofs.Common.{sym, subst}
use Rattle.mpc_controller.specs.Ways.{IsWay, root}
use Rattle.mpc_controller.proofs.ways.way_to.Goals as goal

pub loop-k-init : goal.loop-k-init
loop-k-init c = λ h. subst (IsWay c.args.tree.now 0) (sym c.new-way.ensures.items) root

use Rattle.mpc_sets.proofs.MaskOrder.{nat_eq-masks}
use Rattle.mpc_sets.proofs.ActiveSetPartialEq.eq.Goals as goal

pub returns : goal.returns
returns c = nat_eq-masks c.self.inside.mask c.other.inside.mask c.args.self.now c.args.other.now c.self.invariant c.other.invariant c.self.view_is c.other.view_is

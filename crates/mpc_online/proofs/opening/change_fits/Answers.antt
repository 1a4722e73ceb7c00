use Rattle.mpc_online.proofs.SmallSums.{change_small}
use Rattle.mpc_online.proofs.opening.change_fits.Goals as goal

pub returns : goal.returns
returns c t x h = change_small c.over_theorems.ensures c.in-Some.all c.in-Some.ensures.some c.in-Some.ensures.small c.args.old.now c.args.new.now x (c.is_small_sum.ensures c.if-not-is_small_sum.false x h) (c.is_small_sum-2.ensures t x h)

use Rattle.std.proofs.Common.{◌<◌}
use Rattle.mpc_whole.proofs.reduced.shared_with_all.Given as goal

abbrev pub invariant-loop-index : goal.invariant-loop-index
invariant-loop-index l = 0 < l.by.den

use Rattle.std.proofs.Common.{◌≡◌, take}
use Rattle.mpc_recur.proofs.met.shared.Given as goal

abbrev pub invariant-loop-k : goal.invariant-loop-k
invariant-loop-k l = take l.k l.first ≡ take l.k l.second

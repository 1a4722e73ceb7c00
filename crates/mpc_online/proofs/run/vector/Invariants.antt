use Rattle.std.proofs.Common.{◌≡◌, take}
use Rattle.mpc_online.proofs.run.vector.Given as goal

abbrev pub invariant-loop-entry : goal.invariant-loop-entry
invariant-loop-entry l = l.out ≡ take l.entry-index l.entries

use Rattle.std.proofs.Common.{◌≡◌, replicate}
use Rattle.mpc_scaled.proofs.systems.put_ones.Given as goal

abbrev pub invariant-loop : goal.invariant-loop
invariant-loop l = l.scales.items ≡ replicate l.counter 1

use Rattle.std.proofs.Common.{◌≡◌, take}
use Rattle.mpc_check.specs.Picks.{weights}
use Rattle.mpc_check.proofs.certs.named_multipliers.Given as goal

abbrev pub invariant-loop-i : goal.invariant-loop-i
invariant-loop-i l = l.multipliers ≡ weights (take l.i l.entries)

use Rattle.std.proofs.Common.{◌≡◌, take}
use Rattle.mpc_controller.specs.Parts.{limits_of}
use Rattle.mpc_controller.proofs.bounds.limits.Given as goal

abbrev pub invariant-loop-i : goal.invariant-loop-i
invariant-loop-i l = l.counts ≡ take l.i (limits_of l.plant)

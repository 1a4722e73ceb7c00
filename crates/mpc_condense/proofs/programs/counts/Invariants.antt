use Rattle.std.proofs.Common.{◌≡◌, take}
use Rattle.mpc_condense.specs.Condensed.{counts_of}
use Rattle.mpc_condense.proofs.programs.counts.Given as goal

abbrev pub invariant-loop-i : goal.invariant-loop-i
invariant-loop-i l = l.counts ≡ counts_of (take l.i l.grid)

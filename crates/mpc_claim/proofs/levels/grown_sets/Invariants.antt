use Rattle.std.proofs.Common.{◌≡◌, take}
use Rattle.mpc_claim.specs.Entries.{seen}
use Rattle.mpc_claim.specs.Levels.{grown_of}
use Rattle.mpc_claim.proofs.levels.grown_sets.Given as goal

abbrev pub invariant-loop-candidate : goal.invariant-loop-candidate
invariant-loop-candidate l = l.sets.items ≡ grown_of (take l.candidate-index (seen l.verdicts l.level))

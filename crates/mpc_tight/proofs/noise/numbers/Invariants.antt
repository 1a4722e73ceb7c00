use Rattle.std.proofs.Common.{length}
use Rattle.mpc_tight.proofs.NoiseLines.{HasNumbers}
use Rattle.mpc_tight.proofs.noise.numbers.Given as goal

abbrev pub invariant-words : goal.invariant-words
invariant-words l = HasNumbers l.line l.rest l.noise

abbrev pub decreases-words : goal.decreases-words
decreases-words l = length l.rest

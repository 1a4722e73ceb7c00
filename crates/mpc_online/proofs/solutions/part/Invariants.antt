use Rattle.std.proofs.Common.{◌+◌}
use Rattle.mpc_space.specs.Matrix.{entry}
use Rattle.mpc_online.proofs.Filled.{IsFilled}
use Rattle.mpc_online.proofs.solutions.part.Given as goal

abbrev pub invariant-loop-index : goal.invariant-loop-index
invariant-loop-index l = IsFilled l.out.items l.index (λ i. entry l.solved (l.first + i) 0)

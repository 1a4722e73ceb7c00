use Rattle.std.proofs.Common.{◌+◌}
use Rattle.mpc_online.specs.Positions.{row_multiplier}
use Rattle.mpc_online.specs.Answers.{position_of}
use Rattle.mpc_online.proofs.Filled.{IsFilled}
use Rattle.mpc_online.proofs.refuting.row_multipliers.Given as goal

abbrev pub invariant-loop-index : goal.invariant-loop-index
invariant-loop-index l = IsFilled l.out.items l.index (λ i. row_multiplier (position_of l.it) l.changes (i + 1))

use Rattle.mpc_whole.specs.Running.{HasColumnMultipliers}
use Rattle.mpc_whole.proofs.whole_ends.column_multipliers.Given as goal

abbrev pub invariant-loop-column : goal.invariant-loop-column
invariant-loop-column l = HasColumnMultipliers l.system.width l.scales l.nonbasic l.row l.den l.column l.list

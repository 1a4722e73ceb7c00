use Rattle.std.proofs.Common.{◌-◌}
use Rattle.mpc_sets.proofs.Singles.{HoldsSingles}
use Rattle.mpc_sets.proofs.single_rows.Given as goal

abbrev pub invariant-loop-row : goal.invariant-loop-row
invariant-loop-row l = HoldsSingles (l.row - 1) l.level.items

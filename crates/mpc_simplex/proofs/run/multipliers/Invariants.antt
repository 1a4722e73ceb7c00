use Rattle.std.proofs.Common.{◌≡◌, ℕ, ◌<◌}
use Rattle.mpc_rows.specs.Run.{multiplier}
use Rattle.mpc_runs.specs.Table.{position_of}
use Rattle.mpc_space.specs.Vector.{coordinate}
use Rattle.mpc_simplex.proofs.run.multipliers.Given as goal

abbrev pub invariant-loop-row : goal.invariant-loop-row
invariant-loop-row l = (j : ℕ) → j < l.row → coordinate l.list j ≡ multiplier l.system (position_of l.system.width l.seats l.entries) l.leaving j

use Rattle.std.proofs.Common.{◌≡◌, ℕ, ◌<◌}
use Rattle.mpc_rows.specs.Run.{value}
use Rattle.mpc_runs.specs.Table.{position_of}
use Rattle.mpc_runs.proofs.Answered.{pair_in}
use Rattle.mpc_simplex.proofs.run.point.Given as goal

abbrev pub invariant-loop-unknown : goal.invariant-loop-unknown
invariant-loop-unknown l = (i : ℕ) → i < l.unknown → pair_in l.values i ≡ value l.system (position_of l.system.width l.seats l.entries) i

use Rattle.std.proofs.Common.{◌≡◌, None}
use Rattle.mpc_rows.specs.Least.{least}
use Rattle.mpc_rows.specs.Run.{may_enter}
use Rattle.mpc_runs.specs.Table.{position_of}
use Rattle.mpc_simplex.proofs.run.entering.Given as goal

abbrev pub invariant-loop-variable : goal.invariant-loop-variable
invariant-loop-variable l = least (may_enter l.system (position_of l.system.width l.seats l.entries) l.leaving) l.variable ≡ None

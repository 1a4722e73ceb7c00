use Rattle.std.proofs.Common.{◌≡◌, ℕ, ◌<◌, true}
use Rattle.mpc_rows.specs.Least.{least}
use Rattle.mpc_rows.specs.Run.{may_leave}
use Rattle.mpc_rows.specs.RunWidth.{ValueFits}
use Rattle.mpc_runs.specs.Table.{position_of}
use Rattle.mpc_simplex.proofs.run.leaving.Given as goal

abbrev pub invariant-loop-variable : goal.invariant-loop-variable
invariant-loop-variable l = record {
  least : least (may_leave l.system (position_of l.system.width l.seats l.entries)) l.variable ≡ l.out;
  fits : (z : ℕ) → z < l.variable → (position_of l.system.width l.seats l.entries).is_basic z ≡ true → ValueFits l.system l.variables (position_of l.system.width l.seats l.entries) z;
}

use Rattle.std.proofs.Common.{◌≡◌, ℕ, ◌<◌, length}
use Rattle.mpc_runs.specs.Table.{variable_at}
use Rattle.mpc_beginnings.proofs.lists.put_unknowns.Given as goal

abbrev pub invariant-loop-variable : goal.invariant-loop-variable
invariant-loop-variable l = record {
  each : length l.nonbasic.items ≡ l.variable;
  at : (c : ℕ) → c < l.variable → variable_at l.nonbasic.items c ≡ c;
}

use Rattle.std.proofs.Common.{◌≡◌, ℕ, ◌<◌, length}
use Rattle.mpc_runs.specs.Table.{seat_at, opening_seat}
use Rattle.mpc_beginnings.proofs.lists.put_first_seats.Given as goal

abbrev pub invariant-loop-variable : goal.invariant-loop-variable
invariant-loop-variable l = record {
  each : length l.seats.items ≡ l.variable;
  at : (x : ℕ) → x < l.variable → seat_at l.seats.items x ≡ opening_seat l.system x;
}

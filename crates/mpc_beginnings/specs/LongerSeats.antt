-- Where the variables of a system stand once further rows come behind its own.
use Rattle.std.specs.Prelude.{◌≡◌, ℕ, ◌<◌, ◌≤◌, true, List}
use Rattle.mpc_runs.specs.declared.variables.Seat.{Seat}
use Rattle.mpc_runs.specs.Table.{seat_at, in_row}

-- the first n variables stand where they stood, and all others in rows
pub record AreLongerSeats (n : ℕ) (seats longer : List Seat) : Type 0 where
  pub kept : (x : ℕ) → x < n → seat_at longer x ≡ seat_at seats x
  pub past : (x : ℕ) → n ≤ x → in_row (seat_at longer x) ≡ true

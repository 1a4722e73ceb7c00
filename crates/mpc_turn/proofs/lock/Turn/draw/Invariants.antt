use Rattle.std.proofs.Common.{◌≡◌}
use Rattle.mpc_turn.proofs.lock.Turn.draw.Given as goal

abbrev pub invariant-loop : goal.invariant-loop
invariant-loop g l = record { table : l.seat.table_id ≡ l.initial.seat.table_id; me : l.seat.me ≡ l.initial.seat.me }

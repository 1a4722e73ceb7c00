use Rattle.std.proofs.Common.{◌≡◌, ◌≤◌, vec_len, All}
use Rattle.std.specs.Vec.{vec_capacity}
use Rattle.mpc_workers.specs.Posts.{AtEach, IsOpening}
use Rattle.mpc_workers.specs.Seats.{AreNumbered, IsSeat}
use Rattle.mpc_workers.proofs.seats.seats_of.Given as goal

abbrev pub invariant-loop-i : goal.invariant-loop-i
invariant-loop-i l = record {
  firsts : AtEach (IsOpening l.i) l.turns l.programs l.firsts;
  count : vec_len l.seats ≡ l.i;
  room : l.workers ≤ vec_capacity l.seats;
  numbered : AreNumbered l.seats.items;
  each : All (IsSeat l.turns l.programs l.workers) l.seats.items;
}

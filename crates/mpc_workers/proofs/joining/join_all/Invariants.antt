use Rattle.std.proofs.Common.{vec_len, All}
use Rattle.mpc_workers.specs.Posts.{AtEach}
use Rattle.mpc_workers.specs.Joined.{IsJoining}
use Rattle.mpc_workers.specs.Seats.{AreNumbered, IsSeat}
use Rattle.mpc_workers.proofs.joining.join_all.Given as goal

abbrev pub invariant-loop-seat : goal.invariant-loop-seat
invariant-loop-seat l = record {
  firsts : AtEach (IsJoining l.workers (vec_len l.seats)) l.turns l.programs l.firsts;
  each : All (IsSeat l.turns l.programs l.workers) l.seats.items;
  numbered : AreNumbered l.seats.items;
}

abbrev pub decreases-loop-seat : goal.decreases-loop-seat
decreases-loop-seat l = vec_len l.seats

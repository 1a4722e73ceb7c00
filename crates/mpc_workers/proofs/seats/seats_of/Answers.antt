use Rattle.std.proofs.Common.{All, sym, subst, arith}
use Rattle.std.proofs.lemmas.List.Elements.{All-push}
use Rattle.mpc_workers.specs.Seats.{AreNumbered, IsSeat}
use Rattle.mpc_workers.proofs.Joins.{numbered_more}
use Rattle.mpc_workers.proofs.seats.seats_of.Goals as goal

pub loop-i-preserved : goal.loop-i-preserved
loop-i-preserved c =
    let more = c.push_reserved.ensures.len in
    let kept = c.push_reserved.ensures.capacity in
    let count = c.loop-i.invariant.count in
    let room = c.loop-i.invariant.room in
    let seats_ok = c.loop-i.seats.ok in
    let worker = c.in_ok-seat.ensures.worker in
    record {
      firsts = c.in_ok-seat.ensures.firsts;
      count = omega (arith, more, count);
      room = omega (arith, kept, room);
      numbered = subst AreNumbered (sym c.push_reserved.ensures.items) (numbered_more c.loop-i.seats.items c.in_ok-seat.seat c.loop-i.invariant.numbered (omega (arith, worker, count, seats_ok)));
      each = subst (All (IsSeat c.args.turns.now c.args.programs.now c.args.workers)) (sym c.push_reserved.ensures.items) (All-push (IsSeat c.args.turns.now c.args.programs.now c.args.workers) c.loop-i.seats.items c.in_ok-seat.seat c.loop-i.invariant.each c.in_ok-seat.ensures.seat);
    }

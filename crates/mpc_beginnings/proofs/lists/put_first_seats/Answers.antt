use Rattle.std.proofs.Common.{[], ◌∷◌, sym, arith, ap, length, length-append}
use Rattle.mpc_runs.specs.declared.variables.Seat.TheVariants.{Row}
use Rattle.mpc_runs.specs.Table.{opening_seat}
use Rattle.mpc_beginnings.proofs.Pushed.{pushed_below}
use Rattle.mpc_beginnings.proofs.lists.put_first_seats.Goals as goal

pub loop-variable-preserved : goal.loop-variable-preserved
loop-variable-preserved c =
    let s = c.args.system.now in
    let seat = c.first_seat-seat.result in
    record {
      each = let e = ap length c.in_ok-push.ensures.items in let h = c.loop-variable.invariant.each in omega (arith, e, length-append c.loop-variable.seats.items (seat ∷ []));
      at = pushed_below (opening_seat s) c.loop-variable.seats.items seat (Row 0) c.loop-variable.variable c.loop-variable.invariant.each c.loop-variable.invariant.at (c.first_seat-seat.ensures s (sym c.unknowns.ensures)) c.push.new.self.items c.in_ok-push.ensures.items;
    }

use Rattle.std.proofs.Common.{List, ◌++◌, sym, subst}
use Rattle.std.proofs.lemmas.List.Elements.{All-append}
use Rattle.mpc_workers.specs.declared.seats.Seat.{Seat}
use Rattle.mpc_workers.specs.Seats.{IsSeat, KeepWorkers}
use Rattle.mpc_workers.proofs.Parts.{keep_both, keep_on}
use Rattle.mpc_workers.proofs.working.work_all.Goals as goal

pub returns-clause-seats : goal.returns-clause-seats
returns-clause-seats g c = All-append (IsSeat c.args.pool.now.turns.now c.args.pool.now.programs.now c.args.pool.now.workers) c.walk.new.seats c.walk-2.new.seats c.walk.ensures.seats c.walk-2.ensures.seats

pub returns-clause-workers : goal.returns-clause-workers
returns-clause-workers g c =
    keep_on c.args.seats.now c.work_alone.new.seats (c.walk.new.seats ++ c.walk-2.new.seats) c.work_alone.ensures.workers
    (subst (λ (s : List Seat). KeepWorkers s (c.walk.new.seats ++ c.walk-2.new.seats)) (sym c.split_at_mut-first.ensures.value)
    (keep_both c.split_at_mut-first.result.0.now c.split_at_mut-first.result.1.now c.walk.new.seats c.walk-2.new.seats c.walk.ensures.workers c.walk-2.ensures.workers))

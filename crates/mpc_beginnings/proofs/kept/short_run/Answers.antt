use Rattle.std.proofs.Common.{refl, sym, subst}
use Rattle.mpc_whole.specs.Lists.{of_short}
use Rattle.mpc_whole.specs.Held.{AreHeld}
use Rattle.mpc_beginnings.proofs.Limits.{weaker}
use Rattle.mpc_beginnings.proofs.kept.short_run.Goals as goal

pub whole_run-requires-clause-frame : goal.whole_run-requires-clause-frame
whole_run-requires-clause-frame c = record { numbers = record { count = refl; whole = c.requires.numbers.whole; room = c.requires.limit.room }; bounds = c.requires.limit.bounds; most_small = c.requires.limit.top }

pub whole_run-requires-clause-lists : goal.whole_run-requires-clause-lists
whole_run-requires-clause-lists c = rw c.in_ok-start.ensures.own c.requires.lists

pub whole_run-requires-clause-held : goal.whole_run-requires-clause-held
whole_run-requires-clause-held c =
    let l = c.args.lists.now in
    let m = c.args.numbers.now in
    let limit = c.requires.limit in
    subst (λ d. AreHeld c.args.system.now m.scales.now m.a.now c.args.most d (of_short l)) (sym c.in_ok-start.ensures.den) (record {
      small = weaker c.args.from.own c.args.most l.numbers.items c.requires.lists.own limit.own_small;
      first_small = c.requires.first_small;
      second_small = c.requires.second_small;
      den_small = limit.den_small;
      narrow = limit.narrow l.seats.items l.numbers.items c.requires.lists.own;
    })

pub whole_run-requires-clause-underway : goal.whole_run-requires-clause-underway
whole_run-requires-clause-underway c =
    rw (c.in_ok-start.ensures.den, c.in_ok-start.ensures.greatest, c.in_ok-start.ensures.greatest_den, c.in_ok-start.ensures.first)
    (c.requires.start.within c.args.most c.requires.limit.bounds c.requires.limit.kept_small c.requires.limit.kept_den_small)

pub whole_run-requires-clause-row_size : goal.whole_run-requires-clause-row_size
whole_run-requires-clause-row_size c = c.requires.row_size

pub returns-clause-lists : goal.returns-clause-lists
returns-clause-lists c = rw (← c.wide_place.ensures.own) c.in_ok-place.ensures.lists

pub returns-clause-small : goal.returns-clause-small
returns-clause-small c = (c.in_ok-place.ensures.held.first_small, c.in_ok-place.ensures.held.second_small)

pub returns-clause-end : goal.returns-clause-end
returns-clause-end c = rw (← c.wide_place.ensures.den, ← c.wide_place.ensures.greatest, ← c.wide_place.ensures.greatest_den) c.in_ok-place.ensures.end

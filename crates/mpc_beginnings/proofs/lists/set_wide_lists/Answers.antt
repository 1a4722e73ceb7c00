use Rattle.std.proofs.Common.{sym, ◌∙◌, ap, subst, cond}
use Rattle.mpc_whole.specs.Lists.{Listed, of_short, of_wide, weights_of}
use Rattle.mpc_beginnings.specs.RunLists.{lists_of, AreLonger}
use Rattle.mpc_beginnings.proofs.Listed.{seats_pushed}
use Rattle.mpc_beginnings.proofs.lists.set_wide_lists.Goals as goal

pub returns-clause-longer : goal.returns-clause-longer
returns-clause-longer c =
    let put = c.put_wide_copies.new.lists in
    let now = of_wide put.wide in
    let then : Listed = record { seats = c.push_sides.new.seats.items; nonbasic = now.nonbasic; numbers = now.numbers; firsts = now.firsts; seconds = now.seconds } in
    subst (λ b. AreLonger c.args.height c.args.longer (lists_of c.args.other.now) (cond b then (of_short put.short))) (sym c.in_ok-put_wide_copies.ensures.wide)
    (seats_pushed c.args.height c.args.longer (lists_of c.args.other.now) now c.push_sides.new.seats.items c.in_ok-put_wide_copies.ensures.same c.in_ok-push_sides.ensures.seated c.in_ok-push_sides.ensures.grown)

pub returns-clause-weights : goal.returns-clause-weights
returns-clause-weights c = λ j h.
    ap (λ b. cond b (weights_of c.put_wide_copies.new.lists.wide j) c.args.product) c.in_ok-put_wide_copies.ensures.wide ∙ c.in_ok-put_wide_copies.ensures.weights j h

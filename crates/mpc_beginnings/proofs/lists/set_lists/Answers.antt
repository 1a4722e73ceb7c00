use Rattle.std.proofs.Common.{sym, subst, ◌∙◌, cond}
use Rattle.mpc_whole.specs.Lists.{Listed, of_short, of_wide}
use Rattle.mpc_beginnings.specs.RunLists.{lists_of, AreLonger}
use Rattle.mpc_beginnings.proofs.Listed.{wide_of, short_of, seats_pushed}
use Rattle.mpc_beginnings.proofs.lists.set_lists.Goals as goal

pub returns-then-lists-clause-longer : goal.returns-then-lists-clause-longer
returns-then-lists-clause-longer c =
    let put = c.put_copies.new.lists in
    let now = of_wide put.wide in
    let then : Listed = record { seats = c.push_sides.new.seats.items; nonbasic = now.nonbasic; numbers = now.numbers; firsts = now.firsts; seconds = now.seconds } in
    subst (λ b. AreLonger c.args.height c.args.longer (lists_of c.args.other.now) (cond b then (of_short put.short))) (sym c.if-lists.true)
    (seats_pushed c.args.height c.args.longer (lists_of c.args.other.now) now c.push_sides.new.seats.items (sym (wide_of put c.if-lists.true) ∙ c.in_ok-put_copies.ensures.same) c.in_ok-push_sides.ensures.seated c.in_ok-push_sides.ensures.grown)

pub returns-then-lists-clause-small : goal.returns-then-lists-clause-small
returns-then-lists-clause-small c = λ h. let s = c.in_ok-put_copies.ensures.small h in record { first = s.first; second = s.second }

pub returns-clause-longer : goal.returns-clause-longer
returns-clause-longer c =
    let put = c.put_copies.new.lists in
    let now = of_short put.short in
    let then : Listed = record { seats = c.push_sides-2.new.seats.items; nonbasic = now.nonbasic; numbers = now.numbers; firsts = now.firsts; seconds = now.seconds } in
    subst (λ b. AreLonger c.args.height c.args.longer (lists_of c.args.other.now) (cond b (of_wide put.wide) then)) (sym c.if-lists.false)
    (seats_pushed c.args.height c.args.longer (lists_of c.args.other.now) now c.push_sides-2.new.seats.items (sym (short_of put c.if-lists.false) ∙ c.in_ok-put_copies.ensures.same) c.in_ok-push_sides-2.ensures.seated c.in_ok-push_sides-2.ensures.grown)

pub returns-clause-small : goal.returns-clause-small
returns-clause-small c = λ h. let s = c.in_ok-put_copies.ensures.small h in record { first = s.first; second = s.second }

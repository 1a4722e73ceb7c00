use Rattle.std.proofs.Common.{ℕ, ℤ, ◌≡◌, ◌∙◌, ◌<◌, ◌*◌, List, length, sym, ap, subst, subst₂, arith}
use Rattle.std.specs.Vec.{with_items}
use Rattle.std.proofs.lemmas.List.{with_items_is}
use Rattle.mpc_rows.specs.LinearSystem.{height}
use Rattle.mpc_rows.specs.Run.{count}
use Rattle.mpc_runs.specs.declared.variables.Seat.{Seat}
use Rattle.mpc_runs.specs.declared.variables.Seat.TheVariants.{Column}
use Rattle.mpc_runs.specs.Table.{seat_at, variable_at, IsSeated, AreNonbasic}
use Rattle.mpc_whole.specs.Whole.{IsSwapped}
use Rattle.mpc_scaled.specs.Scaled.{IsSmall}
use Rattle.mpc_whole.specs.Lists.{weights_of}
use Rattle.mpc_whole.specs.Judged.{IsReducedPivot, IsMildlyUnderway}
use Rattle.mpc_whole.specs.Moved.{AreFormed}
use Rattle.mpc_whole.proofs.ColumnSums.{in_column}
use Rattle.mpc_whole.proofs.DividedRows.{times_row, times_is}
use Rattle.mpc_whole.proofs.JudgedTurns.{leaver_in, leaver_seat, enterer_in, enterer_seat, seated_after, mildly_after}
use Rattle.mpc_whole.proofs.judged.make_pivot.Goals as goal
use Rattle.mpc_whole.proofs.judged.make_pivot.Goals.{After-column_of-column, After-swap, After-wide_stand}

pub column_of-column-requires-clause-below : goal.column_of-column-requires-clause-below
column_of-column-requires-clause-below c = rw c.deref.ensures.value (subst (λ m. c.args.entering < m) (sym c.requires.lists.seated.each) (enterer_in c.requires.numbers.whole c.requires.lists c.requires.kept.stands c.requires.kept.leaves c.requires.kept.enters))

pub column_of-column-requires-clause-free : goal.column_of-column-requires-clause-free
column_of-column-requires-clause-free c = rw c.deref.ensures.value (enterer_seat c.requires.numbers.whole c.requires.lists c.requires.kept.stands c.requires.kept.leaves c.requires.kept.enters)

entered : (c : After-column_of-column) → seat_at c.args.lists.now.seats.items c.args.entering ≡ Column c.column_of-column.result
entered c = ap (λ (t : List Seat). seat_at t c.args.entering) (sym c.deref.ensures.value) ∙ c.column_of-column.ensures

column_in : (c : After-column_of-column) → c.column_of-column.result < c.args.system.now.width
column_in c = (c.requires.lists.seated.columns c.args.entering c.column_of-column.result (enterer_in c.requires.numbers.whole c.requires.lists c.requires.kept.stands c.requires.kept.leaves c.requires.kept.enters) (entered c)).0

pub reduce-requires-clause-column : goal.reduce-requires-clause-column
reduce-requires-clause-column c = let at = goal.at.reduce-requires-clause-column c in subst (λ m. c.column_of-column.result < m) (sym c.requires.row.size) (column_in at.After-column_of-column)

pub swap-requires-clause-leaves_below : goal.swap-requires-clause-leaves_below
swap-requires-clause-leaves_below c = rw c.deref_mut-2.ensures.value (subst (λ m. c.args.leaving < m) (sym c.requires.lists.seated.each) (leaver_in c.requires.numbers.whole c.requires.lists c.requires.kept.stands c.requires.kept.leaves))

pub swap-requires-clause-column_below : goal.swap-requires-clause-column_below
swap-requires-clause-column_below c =
    let at = goal.at.swap-requires-clause-column_below c in
    rw c.deref_mut-3.ensures.value (subst (λ m. c.column_of-column.result < m) (sym c.requires.lists.columns.each) (column_in at.After-column_of-column))

pub swap-requires-clause-leaves : goal.swap-requires-clause-leaves
swap-requires-clause-leaves c = rw c.deref_mut-2.ensures.value (leaver_seat c.requires.numbers.whole c.requires.lists c.requires.kept.stands c.requires.kept.leaves)

seats_back : (c : After-swap) → (with_items c.args.lists.now.seats c.swap.new.seats).items ≡ c.swap.new.seats
seats_back c = with_items_is c.args.lists.now.seats c.swap.new.seats (let q = c.swap.auto.seats in let o = c.args.lists.now.seats.ok in let v = c.deref_mut-2.ensures.len in omega arith)

swapped : (c : After-swap) → IsSwapped c.args.lists.now.seats.items c.swap.new.seats c.args.leaving c.args.entering
swapped c = rw c.deref_mut-2.ensures.value at c.swap.ensures.seats

entered_then : (c : After-swap) → seat_at c.args.lists.now.seats.items c.args.entering ≡ Column c.column_of-column.result
entered_then c = ap (λ (t : List Seat). seat_at t c.args.entering) (sym c.deref.ensures.value) ∙ c.column_of-column.ensures

seated : (c : After-swap) → IsSeated (height c.args.system.now) c.args.system.now.width (count c.args.system.now) c.swap.new.seats
seated c = seated_after c.requires.numbers.whole c.requires.lists c.requires.kept.stands c.requires.kept.leaves c.requires.kept.enters c.swap.new.seats (swapped c) c.column_of-column.result (entered_then c)

nonbasic_back : (c : After-swap) → (with_items c.args.lists.now.nonbasic c.swap.new.nonbasic).items ≡ c.swap.new.nonbasic
nonbasic_back c = with_items_is c.args.lists.now.nonbasic c.swap.new.nonbasic (let q = c.swap.auto.nonbasic in let o = c.args.lists.now.nonbasic.ok in let v = c.deref_mut-3.ensures.len in omega arith)

columns : (c : After-swap) → AreNonbasic c.args.system.now.width c.swap.new.seats c.swap.new.nonbasic
columns c = c.swap.ensures.columns c.args.system.now.width (rw (c.deref_mut-2.ensures.value, c.deref_mut-3.ensures.value) c.requires.lists.columns)

pub wide_stand-requires-clause-columns : goal.wide_stand-requires-clause-columns
wide_stand-requires-clause-columns c =
    let at = (goal.at.wide_stand-requires-clause-columns c).After-swap in
    ap length (c.deref-2.ensures.value ∙ nonbasic_back at) ∙ (columns at).each

pub wide_stand-requires-clause-below : goal.wide_stand-requires-clause-below
wide_stand-requires-clause-below c =
    let at = (goal.at.wide_stand-requires-clause-below c).After-swap in
    let s = c.args.system.now in
    subst₂ (λ m (t : List ℕ). (k : ℕ) → k < s.width → variable_at t k < m) (sym c.requires.numbers.count) (sym (c.deref-2.ensures.value ∙ nonbasic_back at)) (in_column s (count s) c.swap.new.seats c.swap.new.nonbasic (seated at) (columns at))

numbers_back : (c : After-swap) → (with_items c.args.lists.now.numbers c.reduce.new.numbers).items ≡ c.reduce.new.numbers
numbers_back c = with_items_is c.args.lists.now.numbers c.reduce.new.numbers (let q = c.reduce.auto.numbers in let o = c.args.lists.now.numbers.ok in let v = c.deref_mut.ensures.len in omega arith)

firsts_back : (c : After-wide_stand) → (with_items c.args.lists.now.firsts c.wide_stand.new.firsts).items ≡ c.wide_stand.new.firsts
firsts_back c = with_items_is c.args.lists.now.firsts c.wide_stand.new.firsts (let q = c.wide_stand.auto.firsts in let o = c.args.lists.now.firsts.ok in let v = c.deref_mut-4.ensures.len in omega arith)

seconds_back : (c : After-wide_stand) → (with_items c.args.lists.now.seconds c.wide_stand.new.seconds).items ≡ c.wide_stand.new.seconds
seconds_back c = with_items_is c.args.lists.now.seconds c.wide_stand.new.seconds (let q = c.wide_stand.auto.seconds in let o = c.args.lists.now.seconds.ok in let v = c.deref_mut-5.ensures.len in omega arith)

pub returns-clause-lists : goal.returns-clause-lists
returns-clause-lists c =
    let at = goal.at.returns-clause-lists c in
    let s = c.args.system.now in
    let then = at.After-swap in
    let numbers = numbers_back then in
    let size : length c.reduce.new.numbers ≡ s.width * s.width = (let q : length c.reduce.new.numbers ≡ length c.deref_mut.result.now = c.reduce.auto.numbers in q) ∙ ap length c.deref_mut.ensures.value ∙ c.requires.lists.square in
    record {
      seated = subst (λ (t : List Seat). IsSeated (height s) s.width (count s) t) (sym (seats_back then)) (seated then);
      columns = subst₂ (λ (t : List Seat) (u : List ℕ). AreNonbasic s.width t u) (sym (seats_back then)) (sym (nonbasic_back then))
          (columns then);
      square = ap length numbers ∙ size;
      own = subst (IsSmall c.in_ok-after.after.own) (sym numbers) c.in_ok-after.ensures.own;
      first_size = ap length (firsts_back at.After-wide_stand) ∙ (let q : length c.wide_stand.new.firsts ≡ length c.deref_mut-4.result.now = c.wide_stand.auto.firsts in q) ∙ ap length c.deref_mut-4.ensures.value ∙ c.requires.lists.first_size;
      second_size = ap length (seconds_back at.After-wide_stand) ∙ (let q : length c.wide_stand.new.seconds ≡ length c.deref_mut-5.result.now = c.wide_stand.auto.seconds in q) ∙ ap length c.deref_mut-5.ensures.value ∙ c.requires.lists.second_size;
    }

pub returns-clause-underway : goal.returns-clause-underway
returns-clause-underway c =
    let at = goal.at.returns-clause-underway c in
    let s = c.args.system.now in
    let k = c.args.frame.now.scales.now in
    let a = c.args.frame.now.a.now in
    let b = c.args.frame.now.b.now in
    let r = c.args.lists.now in
    let den = c.args.place.den in
    let g = c.args.row.divisor in
    let x = c.args.row.numbers.now in
    let real = times_row g x in
    let times = times_is g x in
    let then = at.After-swap in
    let piv : IsReducedPivot s.width den r.numbers.items c.reduce.new.numbers real c.column_of-column.result c.in_ok-after.after.den =
    subst₂ (λ w (u : List ℤ). IsReducedPivot w den u c.reduce.new.numbers real c.column_of-column.result c.in_ok-after.after.den) c.requires.row.size c.deref_mut.ensures.value (c.in_ok-after.ensures.pivot real g c.requires.row.some c.requires.row.split times)
    in
    let stood : AreFormed s c.args.frame.now.count c.swap.new.seats k b c.deref-3.result.now c.wide_stand.new.firsts c.wide_stand.new.seconds =
    c.in_ok-wide_stand.ensures c.swap.new.seats (subst (λ m. IsSeated (height s) s.width m c.swap.new.seats) (sym c.requires.numbers.count) (seated then)) (subst (λ (t : List ℕ). AreNonbasic s.width c.swap.new.seats t) (sym (c.deref-2.ensures.value ∙ nonbasic_back then)) (columns then))
    in
    let formed : AreFormed s (count s) c.swap.new.seats k b c.reduce.new.numbers c.wide_stand.new.firsts c.wide_stand.new.seconds =
    subst (λ m. AreFormed s m c.swap.new.seats k b c.reduce.new.numbers c.wide_stand.new.firsts c.wide_stand.new.seconds) c.requires.numbers.count
    (subst (λ (u : List ℤ). AreFormed s c.args.frame.now.count c.swap.new.seats k b u c.wide_stand.new.firsts c.wide_stand.new.seconds) (c.deref-3.ensures.value ∙ numbers_back then) stood)
    in
    let next =
    mildly_after c.requires.numbers.whole c.requires.lists c.requires.kept c.swap.new.seats (swapped then) c.column_of-column.result (entered_then then) g c.args.row.rest x c.requires.row c.reduce.new.numbers c.in_ok-after.after.den piv c.wide_stand.new.firsts c.wide_stand.new.seconds formed
    in
    let p = c.args.place in
    subst (IsMildlyUnderway s (count s) _ k c.in_ok-after.after.den _ _ _ p.greatest p.greatest_den (weights_of r) p.product) (sym c.unknowns.ensures)
    (subst₂ (λ (f g : List ℤ). IsMildlyUnderway s (count s) (with_items r.seats c.swap.new.seats).items k c.in_ok-after.after.den (with_items r.numbers c.reduce.new.numbers).items f g p.greatest p.greatest_den (weights_of r) p.product s.width) (sym (firsts_back at.After-wide_stand)) (sym (seconds_back at.After-wide_stand))
    (subst₂ (λ (t : List Seat) (u : List ℤ). IsMildlyUnderway s (count s) t k c.in_ok-after.after.den u c.wide_stand.new.firsts c.wide_stand.new.seconds p.greatest p.greatest_den (weights_of r) p.product s.width) (sym (seats_back then)) (sym (numbers_back then)) next))

pub reduce-requires-clause-own : goal.reduce-requires-clause-own
reduce-requires-clause-own c = rw c.deref_mut.ensures.value c.requires.lists.own

pub reduce-requires-clause-square : goal.reduce-requires-clause-square
reduce-requires-clause-square c = subst₂ (λ w (u : List ℤ). length u ≡ w * w) (sym c.requires.row.size) (sym c.deref_mut.ensures.value) c.requires.lists.square

pub swap-requires-clause-enters : goal.swap-requires-clause-enters
swap-requires-clause-enters c = ap (λ (t : List Seat). seat_at t c.args.entering) (c.deref_mut-2.ensures.value ∙ sym c.deref.ensures.value) ∙ c.column_of-column.ensures

pub swap-requires-clause-enters_below : goal.swap-requires-clause-enters_below
swap-requires-clause-enters_below c = rw c.deref_mut-2.ensures.value (subst (λ m. c.args.entering < m) (sym c.requires.lists.seated.each) (enterer_in c.requires.numbers.whole c.requires.lists c.requires.kept.stands c.requires.kept.leaves c.requires.kept.enters))

pub wide_stand-requires-clause-numbers : goal.wide_stand-requires-clause-numbers
wide_stand-requires-clause-numbers c = c.requires.numbers

pub wide_stand-requires-clause-own : goal.wide_stand-requires-clause-own
wide_stand-requires-clause-own c = subst (λ (u : List ℤ). IsSmall c.in_ok-after.after.own u) (sym (c.deref-3.ensures.value ∙ numbers_back (goal.at.wide_stand-requires-clause-own c).After-swap)) c.in_ok-after.ensures.own

pub wide_stand-requires-clause-square : goal.wide_stand-requires-clause-square
wide_stand-requires-clause-square c = ap length (c.deref-3.ensures.value ∙ numbers_back (goal.at.wide_stand-requires-clause-square c).After-swap) ∙ (let q : length c.reduce.new.numbers ≡ length c.deref_mut.result.now = c.reduce.auto.numbers in q) ∙ ap length c.deref_mut.ensures.value ∙ c.requires.lists.square

pub wide_stand-requires-clause-first_room : goal.wide_stand-requires-clause-first_room
wide_stand-requires-clause-first_room c = ap length c.deref_mut-4.ensures.value ∙ c.requires.lists.first_size

pub wide_stand-requires-clause-second_room : goal.wide_stand-requires-clause-second_room
wide_stand-requires-clause-second_room c = ap length c.deref_mut-5.ensures.value ∙ c.requires.lists.second_size

pub returns-in_err-after : goal.returns-in_err-after
returns-in_err-after c = rw c.from_residual.ensures (record { lists = tt; underway = tt })

pub returns-in_err-wide_stand : goal.returns-in_err-wide_stand
returns-in_err-wide_stand c = rw c.from_residual-in_err-wide_stand.ensures (record { lists = tt; underway = tt })

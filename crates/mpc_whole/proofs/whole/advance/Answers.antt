use Rattle.std.proofs.Common.{ℕ, ℤ, ◌≡◌, ◌∙◌, ◌<◌, ◌≤◌, ◌-◌, ◌+◌, ◌*◌, ◌^◌, List, length, set, rules, unsigned_abs, sym, ap, subst, subst₂, arith}
use Rattle.std.specs.Vec.{with_items}
use Rattle.std.proofs.lemmas.List.{with_items_is}
use Rattle.mpc_rows.specs.LinearSystem.{height}
use Rattle.mpc_rows.specs.Run.{count}
use Rattle.mpc_runs.specs.declared.variables.Seat.{Seat}
use Rattle.mpc_runs.specs.declared.variables.Seat.TheVariants.{Row, Column}
use Rattle.mpc_runs.specs.Table.{seat_at, variable_at, IsSeated, AreNonbasic}
use Rattle.mpc_whole.specs.Moved.{AreFollowed}
use Rattle.mpc_whole.specs.Running.{AreParts, IsPivot}
use Rattle.mpc_whole.specs.Underway.{IsUnderway}
use Rattle.mpc_whole.specs.Whole.{IsNarrow, IsSwapped, IsWholePivot}
use Rattle.mpc_scaled.specs.Scaled.{whole_at, scale_at, IsSmall}
use Rattle.mpc_whole.proofs.ColumnSums.{in_column}
use Rattle.mpc_runs.proofs.Seats.{row_seat}
use Rattle.mpc_whole.proofs.ShortTurns.{leaver_side, side_below, leaver_in, leaver_seat, enterer_in, enterer_seat, seated_after}
use Rattle.mpc_whole.proofs.WholeExchange.{rows_in}
use Rattle.mpc_whole.proofs.WholeForm.{narrow_by_norms, pivot_narrow}
use Rattle.mpc_whole.proofs.WholeRows.{weaker}
use Rattle.mpc_whole.proofs.WholeRun.{next_underway}
use Rattle.mpc_runs.proofs.WholeWidths.{read_small}
use Rattle.mpc_whole.proofs.whole.advance.Goals as goal
use Rattle.mpc_whole.proofs.whole.advance.Goals.{After-column_of-column, After-swap, After-unsigned_abs-size, After-follow}

pub column_of-column-requires-clause-below : goal.column_of-column-requires-clause-below
column_of-column-requires-clause-below c = rw c.deref.ensures.value (subst (λ m. c.args.entering < m) (sym c.requires.lists.seated.each) (enterer_in c.requires.frame.numbers.whole c.requires.lists c.requires.turns))

pub column_of-column-requires-clause-free : goal.column_of-column-requires-clause-free
column_of-column-requires-clause-free c = rw c.deref.ensures.value (enterer_seat c.requires.frame.numbers.whole c.requires.lists c.requires.turns)

entered : (c : After-column_of-column) → seat_at c.args.lists.now.seats.items c.args.entering ≡ Column c.column_of-column.result
entered c = ap (λ (t : List Seat). seat_at t c.args.entering) (sym c.deref.ensures.value) ∙ c.column_of-column.ensures

column_in : (c : After-column_of-column) → c.column_of-column.result < c.args.system.now.width
column_in c = (c.requires.lists.seated.columns c.args.entering c.column_of-column.result (enterer_in c.requires.frame.numbers.whole c.requires.lists c.requires.turns) (entered c)).0

column_below : (c : After-column_of-column) → c.column_of-column.result < length c.args.row.now
column_below c = subst (λ m. c.column_of-column.result < m) (sym c.requires.row.size) (column_in c)

pub exchange-requires-clause-square : goal.exchange-requires-clause-square
exchange-requires-clause-square c = subst₂ (λ w (u : List ℤ). length u ≡ w * w) (sym c.requires.row.size) (sym c.deref_mut.ensures.value) c.requires.lists.square

pub exchange-requires-clause-column : goal.exchange-requires-clause-column
exchange-requires-clause-column c = column_below (goal.at.exchange-requires-clause-column c).After-column_of-column

pub exchange-requires-clause-den_some : goal.exchange-requires-clause-den_some
exchange-requires-clause-den_some c = subst (λ d. 0 < d) (sym c.of-by.ensures) c.requires.turns.underway.stands.form.some

pub exchange-requires-clause-den_small : goal.exchange-requires-clause-den_small
exchange-requires-clause-den_small c = subst (λ d. d ≤ 2 ^ 62) (sym c.of-by.ensures) c.requires.held.den_small

pub exchange-requires-clause-most_small : goal.exchange-requires-clause-most_small
exchange-requires-clause-most_small c = c.requires.frame.most_small

pub exchange-requires-clause-small : goal.exchange-requires-clause-small
exchange-requires-clause-small c = subst (λ (u : List ℤ). IsSmall c.args.frame.now.most u) (sym c.deref_mut.ensures.value) c.requires.held.small

pub exchange-requires-clause-before : goal.exchange-requires-clause-before
exchange-requires-clause-before c = subst (λ (u : List ℤ). IsSmall c.args.place.own u) (sym c.deref_mut.ensures.value) c.requires.lists.own

pub swap-requires-clause-leaves_below : goal.swap-requires-clause-leaves_below
swap-requires-clause-leaves_below c = rw c.deref_mut-2.ensures.value (subst (λ m. c.args.leaving < m) (sym c.requires.lists.seated.each) (leaver_in c.requires.frame.numbers.whole c.requires.lists c.requires.turns))

pub swap-requires-clause-column_below : goal.swap-requires-clause-column_below
swap-requires-clause-column_below c =
    let at = goal.at.swap-requires-clause-column_below c in
    rw c.deref_mut-3.ensures.value (subst (λ m. c.column_of-column.result < m) (sym c.requires.lists.columns.each) (column_in at.After-column_of-column))

pub swap-requires-clause-leaves : goal.swap-requires-clause-leaves
swap-requires-clause-leaves c = rw c.deref_mut-2.ensures.value (leaver_seat c.requires.frame.numbers.whole c.requires.lists c.requires.turns)

seats_back : (c : After-swap) → (with_items c.args.lists.now.seats c.swap.new.seats).items ≡ c.swap.new.seats
seats_back c = with_items_is c.args.lists.now.seats c.swap.new.seats (let q = c.swap.auto.seats in let o = c.args.lists.now.seats.ok in let v = c.deref_mut-2.ensures.len in omega arith)

nonbasic_back : (c : After-swap) → (with_items c.args.lists.now.nonbasic c.swap.new.nonbasic).items ≡ c.swap.new.nonbasic
nonbasic_back c = with_items_is c.args.lists.now.nonbasic c.swap.new.nonbasic (let q = c.swap.auto.nonbasic in let o = c.args.lists.now.nonbasic.ok in let v = c.deref_mut-3.ensures.len in omega arith)

numbers_back : (c : After-swap) → (with_items c.args.lists.now.numbers c.exchange.new.numbers).items ≡ c.exchange.new.numbers
numbers_back c = with_items_is c.args.lists.now.numbers c.exchange.new.numbers (let q = c.exchange.auto.numbers in let o = c.args.lists.now.numbers.ok in let v = c.deref_mut.ensures.len in omega arith)

numbers_square : (c : After-swap) → length c.exchange.new.numbers ≡ c.args.system.now.width * c.args.system.now.width
numbers_square c = (let q : length c.exchange.new.numbers ≡ length c.deref_mut.result.now = c.exchange.auto.numbers in q) ∙ ap length c.deref_mut.ensures.value ∙ c.requires.lists.square

firsts_back : (c : After-follow) → (with_items c.args.lists.now.firsts c.follow.new.firsts).items ≡ c.follow.new.firsts
firsts_back c = with_items_is c.args.lists.now.firsts c.follow.new.firsts (let q = c.follow.auto.firsts in let o = c.args.lists.now.firsts.ok in let v = c.deref_mut-4.ensures.len in omega arith)

seconds_back : (c : After-follow) → (with_items c.args.lists.now.seconds c.follow.new.seconds).items ≡ c.follow.new.seconds
seconds_back c = with_items_is c.args.lists.now.seconds c.follow.new.seconds (let q = c.follow.auto.seconds in let o = c.args.lists.now.seconds.ok in let v = c.deref_mut-5.ensures.len in omega arith)

swapped : (c : After-swap) → IsSwapped c.args.lists.now.seats.items c.swap.new.seats c.args.leaving c.args.entering
swapped c = rw c.deref_mut-2.ensures.value at c.swap.ensures.seats

entered_then : (c : After-swap) → seat_at c.args.lists.now.seats.items c.args.entering ≡ Column c.column_of-column.result
entered_then c = ap (λ (t : List Seat). seat_at t c.args.entering) (sym c.deref.ensures.value) ∙ c.column_of-column.ensures

seated : (c : After-swap) → IsSeated (height c.args.system.now) c.args.system.now.width (count c.args.system.now) c.swap.new.seats
seated c = seated_after c.requires.frame.numbers.whole c.requires.lists c.requires.turns c.swap.new.seats (swapped c) c.column_of-column.result (entered_then c)

columns : (c : After-swap) → AreNonbasic c.args.system.now.width c.swap.new.seats c.swap.new.nonbasic
columns c = c.swap.ensures.columns c.args.system.now.width (rw (c.deref_mut-2.ensures.value, c.deref_mut-3.ensures.value) c.requires.lists.columns)

pub bounds-row-column : goal.bounds-row-column
bounds-row-column c = column_below (goal.at.bounds-row-column c).After-column_of-column

pub offset_bounds-row-column : goal.offset_bounds-row-column
offset_bounds-row-column c =
    let h : c.column_of-column.result < length c.args.row.now = column_below (goal.at.offset_bounds-row-column c).After-column_of-column in
    search rules

pub overflow_sub-pivot : goal.overflow_sub-pivot
overflow_sub-pivot c = subst (λ w. w ≤ c.args.leaving) (sym c.unknowns-width.ensures) (leaver_side c.requires.frame.numbers.whole c.requires.lists c.requires.turns)

size_is : (c : After-unsigned_abs-size) → c.unsigned_abs-size.result ≡ unsigned_abs (whole_at c.args.row.now c.column_of-column.result)
size_is c = c.unsigned_abs-size.ensures.value ∙ ap unsigned_abs (read_small (whole_at c.args.row.now c.column_of-column.result) (c.requires.row_small.each c.column_of-column.result))

size_small : (c : After-unsigned_abs-size) → c.unsigned_abs-size.result ≤ 2 ^ 62
size_small c = subst (λ m. m ≤ 2 ^ 62) (sym (size_is c)) (c.requires.row_small.each c.column_of-column.result)

pub follow-requires-clause-numbers : goal.follow-requires-clause-numbers
follow-requires-clause-numbers c = c.requires.frame.numbers

pub follow-requires-clause-columns : goal.follow-requires-clause-columns
follow-requires-clause-columns c =
    let at = (goal.at.follow-requires-clause-columns c).After-swap in
    ap length (c.deref-2.ensures.value ∙ nonbasic_back at) ∙ (columns at).each

pub follow-requires-clause-below : goal.follow-requires-clause-below
follow-requires-clause-below c =
    let at = (goal.at.follow-requires-clause-below c).After-swap in
    let s = c.args.system.now in
    subst₂ (λ m (t : List ℕ). (k : ℕ) → k < s.width → variable_at t k < m) (sym c.requires.frame.numbers.count) (sym (c.deref-2.ensures.value ∙ nonbasic_back at)) (in_column s (count s) c.swap.new.seats c.swap.new.nonbasic (seated at) (columns at))

pub follow-requires-clause-side : goal.follow-requires-clause-side
follow-requires-clause-side c = subst (λ w. c.args.leaving - w < height c.args.system.now) (sym c.unknowns-width.ensures) (side_below c.requires.frame.numbers.whole c.requires.lists c.requires.turns)

pub follow-requires-clause-pivot : goal.follow-requires-clause-pivot
follow-requires-clause-pivot c =
    let at = goal.at.follow-requires-clause-pivot c in
    let w = c.args.system.now.width in
    let a = c.args.frame.now.a.now in
    let after : IsPivot w a c.exchange.new.numbers (c.args.leaving - c.unknowns-width.result) c.column_of-column.result c.of-by.result.den c.unsigned_abs-size.result =
    record {
      inside = subst (λ m. (c.args.leaving - m) * w + w ≤ length a) (sym c.unknowns-width.ensures) (rows_in w (c.args.leaving - w) (height c.args.system.now) (length a) (side_below c.requires.frame.numbers.whole c.requires.lists c.requires.turns) c.requires.frame.numbers.whole.entries_size);
      room = c.requires.frame.numbers.room;
      square = numbers_square at.After-swap;
      column = column_in at.After-column_of-column;
      den_some = subst (λ d. 0 < d) (sym c.of-by.ensures) c.requires.turns.underway.stands.form.some;
      den_small = subst (λ d. d ≤ 2 ^ 62) (sym c.of-by.ensures) c.requires.held.den_small;
      size_small = size_small at.After-unsigned_abs-size;
      numbers_small = weaker c.args.frame.now.most (2 ^ 62) c.exchange.new.numbers c.in_ok-own.ensures.small c.requires.frame.most_small;
    }
    in
    subst (λ (u : List ℤ). IsPivot w a u (c.args.leaving - c.unknowns-width.result) c.column_of-column.result c.of-by.result.den c.unsigned_abs-size.result) (sym (c.deref-3.ensures.value ∙ numbers_back at.After-swap)) after

pub follow-requires-clause-parts : goal.follow-requires-clause-parts
follow-requires-clause-parts c =
    subst₂ (λ (g h : List ℤ). AreParts c.args.system.now.width g h) (sym c.deref_mut-4.ensures.value) (sym c.deref_mut-5.ensures.value)
    (record { first_size = c.requires.lists.first_size; second_size = c.requires.lists.second_size; first_small = c.requires.held.first_small; second_small = c.requires.held.second_small })

pub returns-clause-lists : goal.returns-clause-lists
returns-clause-lists c =
    let at = goal.at.returns-clause-lists c in
    let s = c.args.system.now in
    let then = at.After-swap in
    record {
      seated = subst (λ (t : List Seat). IsSeated (height s) s.width (count s) t) (sym (seats_back then)) (seated then);
      columns = subst₂ (λ (t : List Seat) (u : List ℕ). AreNonbasic s.width t u) (sym (seats_back then)) (sym (nonbasic_back then)) (columns then);
      square = ap length (numbers_back then) ∙ numbers_square then;
      own = subst (IsSmall c.in_ok-own.own) (sym (numbers_back then)) c.in_ok-own.ensures.own;
      first_size = ap length (firsts_back at.After-follow) ∙ c.in_ok-follow.ensures.parts.first_size;
      second_size = ap length (seconds_back at.After-follow) ∙ c.in_ok-follow.ensures.parts.second_size;
    }

pub returns-clause-held : goal.returns-clause-held
returns-clause-held c =
    let at = goal.at.returns-clause-held c in
    let s = c.args.system.now in
    let f = c.args.frame.now in
    let g = c.requires.frame.bounds in
    let then = at.After-swap in
    let narrow : IsNarrow s (count s) c.swap.new.seats f.scales.now f.a.now c.unsigned_abs-size.result c.exchange.new.numbers =
    narrow_by_norms s f.scales.now f.a.now f.b.now c.exchange.new.numbers g.most_entry g.most_side g.most_scale f.most g.bounds c.in_ok-own.ensures.small (count s) c.swap.new.seats c.unsigned_abs-size.result
    (λ y h. subst (λ m. m * scale_at f.scales.now y ≤ 2 ^ 62) (sym (size_is at.After-unsigned_abs-size))
    (pivot_narrow s f.scales.now f.a.now f.b.now c.args.lists.now.numbers.items g.most_entry g.most_side g.most_scale f.most g.bounds c.requires.held.small (c.args.leaving - s.width) c.args.row.now c.requires.row c.column_of-column.result (column_in at.After-column_of-column) y))
    in
    record {
      small = subst (IsSmall f.most) (sym (numbers_back then)) c.in_ok-own.ensures.small;
      first_small = subst (IsSmall (2 ^ 62)) (sym (firsts_back at.After-follow)) c.in_ok-follow.ensures.parts.first_small;
      second_small = subst (IsSmall (2 ^ 62)) (sym (seconds_back at.After-follow)) c.in_ok-follow.ensures.parts.second_small;
      den_small = size_small at.After-unsigned_abs-size;
      narrow = subst₂ (λ (t : List Seat) (u : List ℤ). IsNarrow s (count s) t f.scales.now f.a.now c.unsigned_abs-size.result u) (sym (seats_back then)) (sym (numbers_back then)) narrow;
    }

pub returns-clause-underway : goal.returns-clause-underway
returns-clause-underway c =
    let at = goal.at.returns-clause-underway c in
    let s = c.args.system.now in
    let k = c.args.frame.now.scales.now in
    let a = c.args.frame.now.a.now in
    let b = c.args.frame.now.b.now in
    let r = c.args.lists.now in
    let den = c.args.place.den in
    let i = c.args.leaving - s.width in
    let m = c.column_of-column.result in
    let new = c.exchange.new.numbers in
    let n_1 = c.follow.new.firsts in
    let n_2 = c.follow.new.seconds in
    let then = at.After-swap in
    let rs = row_seat (seat_at r.seats.items c.args.leaving) (leaver_seat c.requires.frame.numbers.whole c.requires.lists c.requires.turns) in
    let stand = (swapped then).seats rs.0 m rs.1 (entered_then then) in
    let size = size_is at.After-unsigned_abs-size in
    let piv : IsWholePivot s.width den r.numbers.items new c.args.row.now m =
    subst (λ (u : List ℤ). IsWholePivot s.width den u new c.args.row.now m) c.deref_mut.ensures.value (subst₂ (λ w d. IsWholePivot w d c.deref_mut.result.now new c.args.row.now m) c.requires.row.size c.of-by.ensures c.in_ok-own.ensures.pivot)
    in
    let given : AreFollowed s c.args.frame.now.count c.swap.new.seats k a b c.deref-3.result.now (c.args.leaving - c.unknowns-width.result) m c.of-by.result.den c.unsigned_abs-size.result c.deref_mut-4.result.now c.deref_mut-5.result.now n_1 n_2 =
    c.in_ok-follow.ensures.values c.swap.new.seats (subst (λ m. IsSeated (height s) s.width m c.swap.new.seats) (sym c.requires.frame.numbers.count) (seated then)) (subst (λ (t : List ℕ). AreNonbasic s.width c.swap.new.seats t) (sym (c.deref-2.ensures.value ∙ nonbasic_back then)) (columns then))
    in
    let from_old : AreFollowed s c.args.frame.now.count c.swap.new.seats k a b new (c.args.leaving - c.unknowns-width.result) m c.of-by.result.den c.unsigned_abs-size.result r.firsts.items r.seconds.items n_1 n_2 =
    subst₂ (λ (g h : List ℤ). AreFollowed s c.args.frame.now.count c.swap.new.seats k a b new (c.args.leaving - c.unknowns-width.result) m c.of-by.result.den c.unsigned_abs-size.result g h n_1 n_2) c.deref_mut-4.ensures.value c.deref_mut-5.ensures.value
    (subst (λ (u : List ℤ). AreFollowed s c.args.frame.now.count c.swap.new.seats k a b u (c.args.leaving - c.unknowns-width.result) m c.of-by.result.den c.unsigned_abs-size.result c.deref_mut-4.result.now c.deref_mut-5.result.now n_1 n_2) (c.deref-3.ensures.value ∙ numbers_back then) given)
    in
    let followed : AreFollowed s (count s) (set (set r.seats.items c.args.leaving (Column m)) c.args.entering (Row rs.0)) k a b new i m den (unsigned_abs (whole_at c.args.row.now m)) r.firsts.items r.seconds.items n_1 n_2 =
    subst₂ (λ (t : List Seat) d. AreFollowed s (count s) t k a b new i m den d r.firsts.items r.seconds.items n_1 n_2) stand size
    (subst₂ (λ w d. AreFollowed s (count s) c.swap.new.seats k a b new (c.args.leaving - w) m d c.unsigned_abs-size.result r.firsts.items r.seconds.items n_1 n_2) c.unknowns-width.ensures c.of-by.ensures
    (subst (λ n. AreFollowed s n c.swap.new.seats k a b new (c.args.leaving - c.unknowns-width.result) m c.of-by.result.den c.unsigned_abs-size.result r.firsts.items r.seconds.items n_1 n_2) c.requires.frame.numbers.count from_old))
    in
    let next : IsUnderway s (count s) c.swap.new.seats k c.unsigned_abs-size.result new n_1 n_2 c.greater.result c.greater-2.result s.width =
    subst₂ (λ (t : List Seat) d. IsUnderway s (count s) t k d new n_1 n_2 c.greater.result c.greater-2.result s.width) (sym stand) (sym size)
    (next_underway s (count s) r.seats.items c.requires.lists.seated k den r.numbers.items a b c.requires.frame.bounds.most_side c.requires.frame.numbers.whole c.requires.frame.bounds.bounds.sides c.requires.held.narrow c.requires.turns.underway.stands c.args.leaving c.requires.turns.leaves c.args.row.now c.requires.row c.args.entering c.requires.turns.enters rs.0 m rs.1 (entered_then then) new piv r.firsts.items r.seconds.items n_1 n_2 c.requires.turns.underway.values followed c.args.place.greatest c.args.place.greatest_den c.greater.result c.greater-2.result c.greater.ensures.first c.greater-2.ensures.first
    (weaker c.args.place.own c.greater.result r.numbers.items c.requires.lists.own c.greater.ensures.second) c.greater-2.ensures.second c.requires.turns.underway.before)
    in
    subst (IsUnderway s (count s) _ k c.unsigned_abs-size.result _ _ _ c.greater.result c.greater-2.result) (sym c.unknowns-width.ensures)
    (subst₂ (λ (f g : List ℤ). IsUnderway s (count s) (with_items r.seats c.swap.new.seats).items k c.unsigned_abs-size.result (with_items r.numbers new).items f g c.greater.result c.greater-2.result s.width) (sym (firsts_back at.After-follow)) (sym (seconds_back at.After-follow))
    (subst₂ (λ (t : List Seat) (u : List ℤ). IsUnderway s (count s) t k c.unsigned_abs-size.result u n_1 n_2 c.greater.result c.greater-2.result s.width) (sym (seats_back then)) (sym (numbers_back then)) next))

pub exchange-requires-clause-row_small : goal.exchange-requires-clause-row_small
exchange-requires-clause-row_small c = c.requires.row_small

pub swap-requires-clause-enters : goal.swap-requires-clause-enters
swap-requires-clause-enters c = ap (λ (t : List Seat). seat_at t c.args.entering) (c.deref_mut-2.ensures.value ∙ sym c.deref.ensures.value) ∙ c.column_of-column.ensures

pub swap-requires-clause-enters_below : goal.swap-requires-clause-enters_below
swap-requires-clause-enters_below c = rw c.deref_mut-2.ensures.value (subst (λ m. c.args.entering < m) (sym c.requires.lists.seated.each) (enterer_in c.requires.frame.numbers.whole c.requires.lists c.requires.turns))

pub returns-in_err-own : goal.returns-in_err-own
returns-in_err-own c = rw c.from_residual.ensures (record { lists = tt; held = tt; underway = tt })

pub returns-in_err-follow : goal.returns-in_err-follow
returns-in_err-follow c = rw c.from_residual-in_err-follow.ensures (record { lists = tt; held = tt; underway = tt })

use Rattle.std.proofs.Common.{ℤ, List, Some, None, ◌≡◌, ◌∙◌, ◌<◌, ◌≤◌, ◌-◌, length, sym, subst, subst₂}
use Rattle.mpc_rows.specs.Least.{least}
use Rattle.mpc_rows.specs.LinearSystem.{height}
use Rattle.mpc_rows.specs.Run.{count, may_leave, may_enter, position}
use Rattle.mpc_runs.specs.declared.variables.Seat.{Seat}
use Rattle.mpc_runs.specs.Table.{IsSeated, AreNonbasic}
use Rattle.mpc_whole.specs.Whole.{HasBasis, HasSideValues, IsRowOf}
use Rattle.mpc_whole.specs.Lists.{weights_of}
use Rattle.mpc_whole.specs.Judged.{IsDividedRow}
use Rattle.mpc_whole.proofs.DividedRows.{times_row, times_is, side_of_divided, rest_some, row_of_divided}
use Rattle.mpc_whole.proofs.Standing.{leaves_here, side_in, row_of_leaving}
use Rattle.mpc_whole.proofs.WholeRun.{side_values_at}
use Rattle.mpc_whole.proofs.JudgedRun.{judged_point, mild_point, judged_refuted, mild_refuted}
use Rattle.mpc_whole.proofs.judged.judged_step.Goals as goal
use Rattle.mpc_whole.proofs.judged.judged_step.Goals.{In_ok-out, In-Some, After-wide_entering, In_ok-judge_last, In_ok-judge_last-2}

found : (c : In_ok-out) → c.in_ok-out.out ≡ least (may_leave c.args.system.now (position c.args.system.now c.requires.underway.underway.stands.at)) (count c.args.system.now)
found c =
    let z = c.requires.underway.underway.stands in
    let basis : HasBasis c.args.frame.now.count c.deref.result.now (position c.args.system.now c.requires.underway.underway.stands.at) = subst₂ (λ m (t : List Seat). HasBasis m t (position c.args.system.now c.requires.underway.underway.stands.at)) (sym c.requires.numbers.count) (sym c.deref.ensures.value) (record { basic = z.form.basic }) in
    let values = subst₂ (λ (f g : List ℤ). HasSideValues c.args.system.now c.args.frame.now.scales.now c.args.frame.now.a.now (position c.args.system.now c.requires.underway.underway.stands.at) c.args.place.den f g) (sym c.deref-2.ensures.value) (sym c.deref-3.ensures.value)
    (side_values_at c.args.system.now c.args.frame.now.scales.now c.args.frame.now.a.now c.args.frame.now.b.now c.requires.numbers.whole z.at z.order (count c.args.system.now) c.args.lists.now.seats.items c.args.place.den c.args.lists.now.numbers.items z.form c.args.lists.now.firsts.items c.args.lists.now.seconds.items c.requires.underway.underway.values)
    in
    subst (λ m. c.in_ok-out.out ≡ least (may_leave c.args.system.now (position c.args.system.now c.requires.underway.underway.stands.at)) m) c.requires.numbers.count (c.in_ok-out.ensures (position c.args.system.now c.requires.underway.underway.stands.at) z.form.some basis values c.requires.numbers.whole.sides c.requires.underway.underway.stay)

nobody : (c : In_ok-judge_last) → c.in_ok-out.out ≡ least (may_leave c.args.system.now (position c.args.system.now c.requires.underway.underway.stands.at)) (count c.args.system.now) → None ≡ least (may_leave c.args.system.now (position c.args.system.now c.requires.underway.underway.stands.at)) (count c.args.system.now)
nobody c f = let q : c.in_ok-out.out ≡ None = c.in_default.is in sym q ∙ f

pub returns-in_default-clause-end : goal.returns-in_default-clause-end
returns-in_default-clause-end c =
    let at = goal.at.returns-in_default-clause-end c in
    judged_point c.args.system.now (count c.args.system.now) c.args.lists.now.seats.items c.requires.lists.seated c.args.frame.now.scales.now c.args.place.den c.args.lists.now.numbers.items c.args.frame.now.a.now c.args.frame.now.b.now c.requires.numbers.whole c.args.lists.now.firsts.items c.args.lists.now.seconds.items c.args.place.greatest c.args.place.greatest_den (weights_of c.args.lists.now) c.args.place.product c.args.place.first c.requires.underway 0 0 0 c.in_ok-judge_last.ensures (nobody at.In_ok-judge_last (found at.In_ok-out))

pub returns-in_default-clause-before : goal.returns-in_default-clause-before
returns-in_default-clause-before c =
    let at = goal.at.returns-in_default-clause-before c in
    mild_point c.args.system.now (count c.args.system.now) c.args.lists.now.seats.items c.requires.lists.seated c.args.frame.now.scales.now c.args.place.den c.args.lists.now.numbers.items c.args.frame.now.a.now c.args.frame.now.b.now c.requires.numbers.whole c.args.lists.now.firsts.items c.args.lists.now.seconds.items c.args.place.greatest c.args.place.greatest_den (weights_of c.args.lists.now) c.args.place.product c.args.place.first c.requires.underway 0 0 0 c.in_ok-judge_last.ensures (nobody at.In_ok-judge_last (found at.In_ok-out))

leaver_is : (c : In-Some) → c.in_ok-out.out ≡ least (may_leave c.args.system.now (position c.args.system.now c.requires.underway.underway.stands.at)) (count c.args.system.now) → Some c.in-Some.leaving ≡ least (may_leave c.args.system.now (position c.args.system.now c.requires.underway.underway.stands.at)) (count c.args.system.now)
leaver_is c f = let q : c.in_ok-out.out ≡ Some c.in-Some.leaving = c.in-Some.is in sym q ∙ f

pub overflow_sub-side : goal.overflow_sub-side
overflow_sub-side c =
    let at = goal.at.overflow_sub-side c in
    subst (λ w. w ≤ c.in-Some.leaving) (sym c.unknowns.ensures) (leaves_here c.args.system.now (count c.args.system.now) c.args.lists.now.seats.items c.requires.lists.seated c.args.frame.now.scales.now c.args.place.den c.args.lists.now.numbers.items c.args.frame.now.a.now c.args.frame.now.b.now c.requires.numbers.whole c.requires.underway.underway.stands c.in-Some.leaving (leaver_is at.In-Some (found at.In_ok-out))).violated.side

pub divided_row-requires-clause-side : goal.divided_row-requires-clause-side
divided_row-requires-clause-side c =
    let at = goal.at.divided_row-requires-clause-side c in
    subst (λ w. c.in-Some.leaving - w < height c.args.system.now) (sym c.unknowns.ensures) (side_in c.args.system.now (count c.args.system.now) c.args.lists.now.seats.items c.requires.lists.seated c.args.frame.now.scales.now c.args.place.den c.args.lists.now.numbers.items c.args.frame.now.a.now c.args.frame.now.b.now c.requires.numbers.whole c.requires.underway.underway.stands c.in-Some.leaving (leaver_is at.In-Some (found at.In_ok-out)))

entered : (c : After-wide_entering) → Some c.in-Some.leaving ≡ least (may_leave c.args.system.now (position c.args.system.now c.requires.underway.underway.stands.at)) (count c.args.system.now) → c.wide_entering.result ≡ least (may_enter c.args.system.now (position c.args.system.now c.requires.underway.underway.stands.at) c.in-Some.leaving) (count c.args.system.now)
entered c e =
    let z = c.requires.underway.underway.stands in
    let back = sym c.requires.numbers.count in
    let seated = subst (λ m. IsSeated (height c.args.system.now) c.args.system.now.width m c.args.lists.now.seats.items) back c.requires.lists.seated in
    let columns : AreNonbasic c.args.system.now.width c.args.lists.now.seats.items c.deref-5.result.now = rw c.deref-5.ensures.value c.requires.lists.columns in
    let basis : HasBasis c.args.frame.now.count c.args.lists.now.seats.items (position c.args.system.now c.requires.underway.underway.stands.at) = subst (λ m. HasBasis m c.args.lists.now.seats.items (position c.args.system.now c.requires.underway.underway.stands.at)) back (record { basic = z.form.basic }) in
    let s = c.args.system.now in
    let k = c.args.frame.now.scales.now in
    let a = c.args.frame.now.a.now in
    let r = c.args.lists.now in
    let den = c.args.place.den in
    let g = c.in_ok-divisor.divisor in
    let rest = c.in_ok-divisor.rest in
    let x = c.divided_row.new.row in
    let divided : IsDividedRow s a r.numbers.items (c.in-Some.leaving - s.width) den g rest x =
    subst₂ (λ w (u : List ℤ). IsDividedRow s a u (c.in-Some.leaving - w) den g rest x) c.unknowns.ensures c.deref-4.ensures.value c.in_ok-divisor.ensures
    in
    let real = row_of_leaving s (count s) r.seats.items c.requires.lists.seated k den r.numbers.items a c.args.frame.now.b.now c.requires.numbers.whole z c.in-Some.leaving e (times_row g x) (side_of_divided s a r.numbers.items (c.in-Some.leaving - s.width) den g rest x divided) in
    let row = subst (λ m. IsRowOf m r.seats.items k (position s z.at) rest c.in-Some.leaving x) back
    (row_of_divided (count s) r.seats.items k (position s z.at) den c.in-Some.leaving g rest x (times_row g x) z.form.some divided.split (times_is g x) (λ y m h q. subst (λ w. m < w) (sym divided.size) (c.requires.lists.seated.columns y m h q).0) real)
    in
    subst (λ m. c.wide_entering.result ≡ least (may_enter c.args.system.now (position c.args.system.now c.requires.underway.underway.stands.at) c.in-Some.leaving) m) c.requires.numbers.count
    (c.wide_entering.ensures c.args.lists.now.seats.items (position c.args.system.now c.requires.underway.underway.stands.at) c.args.frame.now.scales.now c.in-Some.leaving rest seated columns (rest_some g rest den divided.split z.form.some) basis row)

nobody_enters : (c : In_ok-judge_last-2) → c.wide_entering.result ≡ least (may_enter c.args.system.now (position c.args.system.now c.requires.underway.underway.stands.at) c.in-Some.leaving) (count c.args.system.now) → None ≡ least (may_enter c.args.system.now (position c.args.system.now c.requires.underway.underway.stands.at) c.in-Some.leaving) (count c.args.system.now)
nobody_enters c f = let q : c.wide_entering.result ≡ None = c.in_default-wide_entering.is in sym q ∙ f

pub returns-in_default-wide_entering-clause-end : goal.returns-in_default-wide_entering-clause-end
returns-in_default-wide_entering-clause-end c =
    let at = goal.at.returns-in_default-wide_entering-clause-end c in
    let e = leaver_is at.In-Some (found at.In_ok-out) in
    judged_refuted c.args.system.now (count c.args.system.now) c.args.lists.now.seats.items c.requires.lists.seated c.args.frame.now.scales.now c.args.place.den c.args.lists.now.numbers.items c.args.frame.now.a.now c.args.frame.now.b.now c.requires.numbers.whole c.args.lists.now.firsts.items c.args.lists.now.seconds.items c.args.place.greatest c.args.place.greatest_den (weights_of c.args.lists.now) c.args.place.product c.args.place.first c.requires.underway 0 0 0 c.in_ok-judge_last-2.ensures c.in-Some.leaving e (nobody_enters at.In_ok-judge_last-2 (entered at.After-wide_entering e))

pub returns-in_default-wide_entering-clause-before : goal.returns-in_default-wide_entering-clause-before
returns-in_default-wide_entering-clause-before c =
    let at = goal.at.returns-in_default-wide_entering-clause-before c in
    let e = leaver_is at.In-Some (found at.In_ok-out) in
    mild_refuted c.args.system.now (count c.args.system.now) c.args.lists.now.seats.items c.requires.lists.seated c.args.frame.now.scales.now c.args.place.den c.args.lists.now.numbers.items c.args.frame.now.a.now c.args.frame.now.b.now c.requires.numbers.whole c.args.lists.now.firsts.items c.args.lists.now.seconds.items c.args.place.greatest c.args.place.greatest_den (weights_of c.args.lists.now) c.args.place.product c.args.place.first c.requires.underway 0 0 0 c.in_ok-judge_last-2.ensures c.in-Some.leaving e (nobody_enters at.In_ok-judge_last-2 (entered at.After-wide_entering e))

pub keep_position-requires-clause-goes : goal.keep_position-requires-clause-goes
keep_position-requires-clause-goes c =
    let at = goal.at.keep_position-requires-clause-goes c in
    let e = leaver_is at.In-Some (found at.In_ok-out) in
    let q : c.wide_entering.result ≡ Some c.in-Some-wide_entering.entering = c.in-Some-wide_entering.is in
    record { underway = c.requires.underway; leaves = e; enters = sym q ∙ entered at.After-wide_entering e }

pub divided_row-requires-clause-den_some : goal.divided_row-requires-clause-den_some
divided_row-requires-clause-den_some c = c.requires.underway.underway.stands.form.some

pub divided_row-requires-clause-room : goal.divided_row-requires-clause-room
divided_row-requires-clause-room c = λ _. c.requires.numbers.room

pub judge_last-requires-clause-some : goal.judge_last-requires-clause-some
judge_last-requires-clause-some c = c.requires.underway.underway.stands.form.some

pub judge_last-requires-in_default-wide_entering-clause-some : goal.judge_last-requires-in_default-wide_entering-clause-some
judge_last-requires-in_default-wide_entering-clause-some c = c.requires.underway.underway.stands.form.some

pub wide_first_out-requires-clause-side : goal.wide_first_out-requires-clause-side
wide_first_out-requires-clause-side c = c.requires.underway.underway.side

pub wide_first_out-requires-clause-numbers : goal.wide_first_out-requires-clause-numbers
wide_first_out-requires-clause-numbers c = c.requires.numbers

pub wide_first_out-requires-clause-seated : goal.wide_first_out-requires-clause-seated
wide_first_out-requires-clause-seated c = rw c.deref.ensures.value (subst (λ m. IsSeated (height c.args.system.now) c.args.system.now.width m c.args.lists.now.seats.items) (sym c.requires.numbers.count) c.requires.lists.seated)

pub wide_first_out-requires-clause-first_size : goal.wide_first_out-requires-clause-first_size
wide_first_out-requires-clause-first_size c = rw c.deref-2.ensures.value c.requires.lists.first_size

pub wide_first_out-requires-clause-second_size : goal.wide_first_out-requires-clause-second_size
wide_first_out-requires-clause-second_size c = rw c.deref-3.ensures.value c.requires.lists.second_size

pub divided_row-requires-clause-entries : goal.divided_row-requires-clause-entries
divided_row-requires-clause-entries c = c.requires.numbers.whole.entries_size

pub divided_row-requires-clause-square : goal.divided_row-requires-clause-square
divided_row-requires-clause-square c = rw c.deref-4.ensures.value c.requires.lists.square

pub divided_row-requires-clause-row_size : goal.divided_row-requires-clause-row_size
divided_row-requires-clause-row_size c = c.requires.row_size

pub wide_entering-requires-clause-columns : goal.wide_entering-requires-clause-columns
wide_entering-requires-clause-columns c = rw c.deref-5.ensures.value c.requires.lists.columns.each

pub wide_entering-requires-clause-row_size : goal.wide_entering-requires-clause-row_size
wide_entering-requires-clause-row_size c = (let q : length c.divided_row.new.row ≡ length c.args.row.now = c.divided_row.auto.row in q) ∙ c.requires.row_size

pub keep_position-requires-clause-numbers : goal.keep_position-requires-clause-numbers
keep_position-requires-clause-numbers c = c.requires.numbers

pub keep_position-requires-clause-sizes : goal.keep_position-requires-clause-sizes
keep_position-requires-clause-sizes c = c.requires.sizes

pub keep_position-requires-clause-lists : goal.keep_position-requires-clause-lists
keep_position-requires-clause-lists c = c.requires.lists

pub judge_last-requires-clause-numbers : goal.judge_last-requires-clause-numbers
judge_last-requires-clause-numbers c = c.requires.numbers

pub judge_last-requires-clause-sizes : goal.judge_last-requires-clause-sizes
judge_last-requires-clause-sizes c = c.requires.sizes

pub judge_last-requires-clause-lists : goal.judge_last-requires-clause-lists
judge_last-requires-clause-lists c = c.requires.lists

pub judge_last-requires-in_default-wide_entering-clause-numbers : goal.judge_last-requires-in_default-wide_entering-clause-numbers
judge_last-requires-in_default-wide_entering-clause-numbers c = c.requires.numbers

pub judge_last-requires-in_default-wide_entering-clause-sizes : goal.judge_last-requires-in_default-wide_entering-clause-sizes
judge_last-requires-in_default-wide_entering-clause-sizes c = c.requires.sizes

pub judge_last-requires-in_default-wide_entering-clause-lists : goal.judge_last-requires-in_default-wide_entering-clause-lists
judge_last-requires-in_default-wide_entering-clause-lists c = c.requires.lists

pub make_pivot-requires-clause-numbers : goal.make_pivot-requires-clause-numbers
make_pivot-requires-clause-numbers c = c.requires.numbers

pub returns-in_err-out : goal.returns-in_err-out
returns-in_err-out c = rw c.from_residual.ensures (record { same = tt; end = tt; before = tt; lists = tt; underway = tt })

pub returns-in_err-judge_last : goal.returns-in_err-judge_last
returns-in_err-judge_last c = rw c.from_residual-in_err-judge_last.ensures (record { same = tt; end = tt; before = tt; lists = tt; underway = tt })

pub returns-in_err-divisor : goal.returns-in_err-divisor
returns-in_err-divisor c = rw c.from_residual-in_err-divisor.ensures (record { same = tt; end = tt; before = tt; lists = tt; underway = tt })

pub returns-in_err-kept : goal.returns-in_err-kept
returns-in_err-kept c = rw c.from_residual-in_err-kept.ensures (record { same = tt; end = tt; before = tt; lists = tt; underway = tt })

pub returns-in_err-next : goal.returns-in_err-next
returns-in_err-next c = rw c.from_residual-in_err-next.ensures (record { same = tt; end = tt; before = tt; lists = tt; underway = tt })

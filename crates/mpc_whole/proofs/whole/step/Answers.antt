use Rattle.std.proofs.Common.{ℤ, List, Some, None, ◌≡◌, ◌∙◌, ◌<◌, ◌-◌, sym, subst, subst₂}
use Rattle.mpc_rows.specs.Least.{least}
use Rattle.mpc_rows.specs.LinearSystem.{height}
use Rattle.mpc_rows.specs.Run.{count, may_leave, may_enter, position}
use Rattle.mpc_runs.specs.declared.variables.Seat.{Seat}
use Rattle.mpc_runs.specs.Table.{IsSeated, AreNonbasic}
use Rattle.mpc_whole.specs.Running.{AreParts}
use Rattle.mpc_whole.specs.Whole.{HasBasis, HasSideValues, IsRowOf, IsSideRow}
use Rattle.mpc_whole.proofs.Standing.{leaves_here, side_in, leaving_in, row_of_leaving}
use Rattle.mpc_whole.proofs.WholeRun.{side_values_at, side_cells_small, point_kept, refuted_kept}
use Rattle.mpc_whole.proofs.whole.step.Goals as goal
use Rattle.mpc_whole.proofs.whole.step.Goals.{After-leaving, In-Some, After-pick}

found : (c : After-leaving) → c.leaving.result ≡ least (may_leave c.args.system.now (position c.args.system.now c.requires.underway.stands.at)) (count c.args.system.now)
found c =
    let z = c.requires.underway.stands in
    let s = c.args.system.now in
    let f = c.args.frame.now in
    let r = c.args.lists.now in
    let basis : HasBasis f.count c.deref.result.now (position s z.at) = subst₂ (λ m (t : List Seat). HasBasis m t (position s z.at)) (sym c.requires.frame.numbers.count) (sym c.deref.ensures.value) (record { basic = z.form.basic }) in
    let values = subst₂ (λ (g h : List ℤ). HasSideValues s f.scales.now f.a.now (position s z.at) c.args.place.den g h) (sym c.deref-2.ensures.value) (sym c.deref-3.ensures.value)
    (side_values_at s f.scales.now f.a.now f.b.now c.requires.frame.numbers.whole z.at z.order (count s) r.seats.items c.args.place.den r.numbers.items z.form r.firsts.items r.seconds.items c.requires.underway.values)
    in
    subst (λ m. c.leaving.result ≡ least (may_leave s (position s z.at)) m) c.requires.frame.numbers.count (c.leaving.ensures (position s z.at) z.form.some basis values c.requires.frame.numbers.whole.sides c.requires.underway.stay)

pub leaving-requires-clause-side : goal.leaving-requires-clause-side
leaving-requires-clause-side c = c.requires.underway.side

pub leaving-requires-clause-frame : goal.leaving-requires-clause-frame
leaving-requires-clause-frame c = c.requires.frame

pub leaving-requires-clause-seated : goal.leaving-requires-clause-seated
leaving-requires-clause-seated c = subst₂ (λ m (t : List Seat). IsSeated (height c.args.system.now) c.args.system.now.width m t) (sym c.requires.frame.numbers.count) (sym c.deref.ensures.value) c.requires.lists.seated

pub leaving-requires-clause-parts : goal.leaving-requires-clause-parts
leaving-requires-clause-parts c =
    subst₂ (λ (g h : List ℤ). AreParts c.args.system.now.width g h) (sym c.deref-2.ensures.value) (sym c.deref-3.ensures.value)
    (record { first_size = c.requires.lists.first_size; second_size = c.requires.lists.second_size; first_small = c.requires.held.first_small; second_small = c.requires.held.second_small })

pub leaving-requires-clause-den_small : goal.leaving-requires-clause-den_small
leaving-requires-clause-den_small c = c.requires.held.den_small

pub returns-in_default-clause-end : goal.returns-in_default-clause-end
returns-in_default-clause-end c =
    let at = goal.at.returns-in_default-clause-end c in
    let s = c.args.system.now in
    let f = c.args.frame.now in
    let r = c.args.lists.now in
    let a : c.leaving.result ≡ None = c.in_default.is in
    point_kept s (count s) r.seats.items c.requires.lists.seated f.scales.now c.args.place.den r.numbers.items f.a.now f.b.now c.requires.frame.bounds.most_side c.requires.frame.numbers.whole c.requires.frame.bounds.bounds.sides c.requires.held.narrow c.requires.underway.stands (sym a ∙ found at.After-leaving) r.firsts.items r.seconds.items c.requires.underway.values c.args.place.greatest c.args.place.greatest_den c.requires.underway.before

leaver_is : (c : In-Some) → c.leaving.result ≡ least (may_leave c.args.system.now (position c.args.system.now c.requires.underway.stands.at)) (count c.args.system.now) → Some c.in-Some.leaving_variable ≡ least (may_leave c.args.system.now (position c.args.system.now c.requires.underway.stands.at)) (count c.args.system.now)
leaver_is c f = let a : c.leaving.result ≡ Some c.in-Some.leaving_variable = c.in-Some.is in sym a ∙ f

pub pick-requires-clause-from : goal.pick-requires-clause-from
pick-requires-clause-from c =
    let at = goal.at.pick-requires-clause-from c in
    let s = c.args.system.now in
    let f = c.args.frame.now in
    let r = c.args.lists.now in
    (leaves_here s (count s) r.seats.items c.requires.lists.seated f.scales.now c.args.place.den r.numbers.items f.a.now f.b.now c.requires.frame.numbers.whole c.requires.underway.stands c.in-Some.leaving_variable (leaver_is at.In-Some (found at.After-leaving))).violated.side

pub pick-requires-clause-below : goal.pick-requires-clause-below
pick-requires-clause-below c =
    let at = goal.at.pick-requires-clause-below c in
    let s = c.args.system.now in
    let f = c.args.frame.now in
    let r = c.args.lists.now in
    subst (λ m. c.in-Some.leaving_variable < m) (sym c.requires.frame.numbers.count)
    (leaving_in s (count s) r.seats.items c.requires.lists.seated f.scales.now c.args.place.den r.numbers.items f.a.now f.b.now c.requires.frame.numbers.whole c.requires.underway.stands c.in-Some.leaving_variable (leaver_is at.In-Some (found at.After-leaving)))

pub pick-requires-clause-row_small : goal.pick-requires-clause-row_small
pick-requires-clause-row_small c =
    let at = goal.at.pick-requires-clause-row_small c in
    let s = c.args.system.now in
    let f = c.args.frame.now in
    let r = c.args.lists.now in
    let e = leaver_is at.In-Some (found at.After-leaving) in
    rw c.deref-5.ensures.value
    (λ k h. side_cells_small s (count s) r.seats.items c.requires.lists.seated f.scales.now c.args.place.den r.numbers.items f.a.now f.b.now c.requires.frame.bounds.most_side c.requires.frame.numbers.whole c.requires.frame.bounds.bounds.sides c.requires.held.narrow c.requires.underway.stands (c.in-Some.leaving_variable - s.width) k
    (side_in s (count s) r.seats.items c.requires.lists.seated f.scales.now c.args.place.den r.numbers.items f.a.now f.b.now c.requires.frame.numbers.whole c.requires.underway.stands c.in-Some.leaving_variable e) h)

pub pick-requires-clause-numbers : goal.pick-requires-clause-numbers
pick-requires-clause-numbers c = c.requires.frame.numbers

pub pick-requires-clause-columns : goal.pick-requires-clause-columns
pick-requires-clause-columns c = rw c.deref-4.ensures.value c.requires.lists.columns.each

pub pick-requires-clause-square : goal.pick-requires-clause-square
pick-requires-clause-square c = rw c.deref-5.ensures.value c.requires.lists.square

row_is : (c : After-pick) → IsSideRow c.args.system.now c.args.frame.now.a.now c.args.lists.now.numbers.items (c.in-Some.leaving_variable - c.args.system.now.width) c.pick.new.row
row_is c = subst (λ (u : List ℤ). IsSideRow c.args.system.now c.args.frame.now.a.now u (c.in-Some.leaving_variable - c.args.system.now.width) c.pick.new.row) c.deref-5.ensures.value c.pick.ensures.row

entered : (c : After-pick) → Some c.in-Some.leaving_variable ≡ least (may_leave c.args.system.now (position c.args.system.now c.requires.underway.stands.at)) (count c.args.system.now) → c.pick.result ≡ least (may_enter c.args.system.now (position c.args.system.now c.requires.underway.stands.at) c.in-Some.leaving_variable) (count c.args.system.now)
entered c e =
    let z = c.requires.underway.stands in
    let s = c.args.system.now in
    let f = c.args.frame.now in
    let r = c.args.lists.now in
    let den = c.args.place.den in
    let back = sym c.requires.frame.numbers.count in
    let seated = subst (λ m. IsSeated (height s) s.width m r.seats.items) back c.requires.lists.seated in
    let columns : AreNonbasic s.width r.seats.items c.deref-4.result.now = rw c.deref-4.ensures.value c.requires.lists.columns in
    let basis : HasBasis f.count r.seats.items (position s z.at) = subst (λ m. HasBasis m r.seats.items (position s z.at)) back (record { basic = z.form.basic }) in
    let row = subst (λ m. IsRowOf m r.seats.items f.scales.now (position s z.at) den c.in-Some.leaving_variable c.pick.new.row) back
    (row_of_leaving s (count s) r.seats.items c.requires.lists.seated f.scales.now den r.numbers.items f.a.now f.b.now c.requires.frame.numbers.whole z c.in-Some.leaving_variable e c.pick.new.row (row_is c))
    in
    subst (λ m. c.pick.result ≡ least (may_enter s (position s z.at) c.in-Some.leaving_variable) m) c.requires.frame.numbers.count
    (c.pick.ensures.least r.seats.items (position s z.at) f.scales.now den seated columns z.form.some basis row)

pub returns-in_default-pick-clause-end : goal.returns-in_default-pick-clause-end
returns-in_default-pick-clause-end c =
    let at = goal.at.returns-in_default-pick-clause-end c in
    let s = c.args.system.now in
    let f = c.args.frame.now in
    let r = c.args.lists.now in
    let e = leaver_is at.In-Some (found at.After-leaving) in
    let b : c.pick.result ≡ None = c.in_default-pick.is in
    refuted_kept s (count s) r.seats.items c.requires.lists.seated f.scales.now c.args.place.den r.numbers.items f.a.now f.b.now c.requires.frame.bounds.most_side c.requires.frame.numbers.whole c.requires.frame.bounds.bounds.sides c.requires.held.narrow c.requires.underway.stands c.in-Some.leaving_variable e c.pick.new.row (row_is at.After-pick) (sym b ∙ entered at.After-pick e) r.firsts.items r.seconds.items c.requires.underway.values c.args.place.greatest c.args.place.greatest_den c.requires.underway.before

pub advance-requires-clause-row : goal.advance-requires-clause-row
advance-requires-clause-row c = row_is (goal.at.advance-requires-clause-row c).After-pick

pub advance-requires-clause-turns : goal.advance-requires-clause-turns
advance-requires-clause-turns c =
    let at = goal.at.advance-requires-clause-turns c in
    let e = leaver_is at.In-Some (found at.After-leaving) in
    let q : c.pick.result ≡ Some c.in-Some-pick.entering = c.in-Some-pick.is in
    record { underway = c.requires.underway; leaves = e; enters = sym q ∙ entered at.After-pick e }

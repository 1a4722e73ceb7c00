use Rattle.std.proofs.Common.{ℕ, ℤ, List, ◌<◌, ◌≤◌, ◌-◌, sym, subst, subst₂}
use Rattle.std.proofs.lemmas.Option.{IfSome_then}
use Rattle.mpc_rows.specs.LinearSystem.{height}
use Rattle.mpc_rows.specs.Run.{count, last_position}
use Rattle.mpc_whole.specs.Running.{IsRefuting}
use Rattle.mpc_runs.specs.Table.{AreNonbasic}
use Rattle.mpc_whole.specs.Whole.{IsSideRow}
use Rattle.mpc_whole.proofs.Nonbasic.{variable_within}
use Rattle.mpc_whole.proofs.WholeRun.{last_side, last_below, last_in, last_row}
use Rattle.mpc_whole.proofs.whole_ends.last_multipliers.Goals as goal

pub overflow_sub-side : goal.overflow_sub-side
overflow_sub-side c =
    let s = c.args.system.now in
    let m = c.args.numbers.now in
    let r = c.args.lists.now in
    subst (λ w. w ≤ c.args.leaving) (sym c.unknowns.ensures) (last_side s (count s) r.seats.items m.scales.now c.args.den r.numbers.items c.requires.form c.requires.seated m.a.now m.b.now c.requires.whole c.args.leaving c.requires.refuted)

pub side_row-requires-clause-side : goal.side_row-requires-clause-side
side_row-requires-clause-side c =
    let s = c.args.system.now in
    let m = c.args.numbers.now in
    let r = c.args.lists.now in
    subst (λ w. c.args.leaving - w < height s) (sym c.unknowns.ensures) (last_in s (count s) r.seats.items m.scales.now c.args.den r.numbers.items c.requires.form c.requires.seated m.a.now m.b.now c.requires.whole c.args.leaving c.requires.refuted)

pub side_row-requires-clause-square : goal.side_row-requires-clause-square
side_row-requires-clause-square c = rw c.deref.ensures.value c.requires.square

pub multipliers-requires-clause-row : goal.multipliers-requires-clause-row
multipliers-requires-clause-row c =
    let s = c.args.system.now in
    let m = c.args.numbers.now in
    let r = c.args.lists.now in
    subst (λ (t : List ℕ). IsRefuting s m.scales.now t c.side_row.new.row c.args.den c.args.leaving) (sym c.deref-2.ensures.value) (record {
      scales = c.requires.whole.scales;
      columns = c.requires.columns.each;
      below = variable_within s (count s) r.seats.items r.nonbasic.items c.requires.seated c.requires.columns;
      row_size = c.in_ok-side_row.ensures.size;
      some = c.requires.form.some;
      side = last_side s (count s) r.seats.items m.scales.now c.args.den r.numbers.items c.requires.form c.requires.seated m.a.now m.b.now c.requires.whole c.args.leaving c.requires.refuted;
      leaves = last_below s (count s) r.seats.items m.scales.now c.args.den r.numbers.items c.requires.form c.requires.seated m.a.now m.b.now c.requires.whole c.args.leaving c.requires.refuted;
    })

pub returns : goal.returns
returns c =
    let s = c.args.system.now in
    let m = c.args.numbers.now in
    let seats = c.args.lists.now.seats.items in
    let v = c.args.lists.now.numbers.items in
    let x = c.side_row.new.row in
    let side : IsSideRow s m.a.now v (c.args.leaving - s.width) x = subst₂ (λ w (u : List ℤ). IsSideRow s m.a.now u (c.args.leaving - w) x) c.unknowns.ensures c.deref.ensures.value c.in_ok-side_row.ensures in
    let row = last_row s (count s) seats m.scales.now c.args.den v c.requires.form c.requires.seated m.a.now m.b.now c.requires.whole c.args.leaving c.requires.refuted x side in
    IfSome_then c.multipliers.result c.multipliers.ensures
    (λ u given. given seats (last_position s) c.requires.seated (subst (λ (t : List ℕ). AreNonbasic s.width seats t) (sym c.deref-2.ensures.value) c.requires.columns) (record { basic = c.requires.form.basic }) row)

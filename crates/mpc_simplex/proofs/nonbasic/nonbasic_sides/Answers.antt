use Rattle.std.proofs.Common.{◌≡◌, ◌∙◌, ◌+◌, ◌<◌, ◌≤◌, false, sym, subst, arith, length, take}
use Rattle.std.proofs.lemmas.List.{length-take-le, length-set, take_more_set}
use Rattle.mpc_rows.specs.LinearSystem.{height}
use Rattle.mpc_runs.specs.Table.{seat_at, in_row}
use Rattle.mpc_simplex.specs.Nonbasic.{AreNonbasicSides}
use Rattle.mpc_simplex.proofs.NonbasicSides.{room_left, sides_more}
use Rattle.mpc_simplex.proofs.nonbasic.nonbasic_sides.Goals as goal
use Rattle.mpc_simplex.proofs.nonbasic.nonbasic_sides.Goals.{Else-is_basic}

free : (c : Else-is_basic) → in_row (seat_at c.args.seats.now c.loop-side.side) ≡ false
free c = sym c.is_basic.ensures ∙ c.if-is_basic.false

some_room : (c : Else-is_basic) → c.loop-side.count < length c.loop-side.list
some_room c =
    let s = c.args.system.now in
    let l : length (take c.loop-side.count c.loop-side.list) ≡ c.loop-side.count = length-take-le c.loop-side.count c.loop-side.list c.loop-side.invariant.within in
    let m : length c.loop-side.list ≡ length c.args.list.now = c.loop-side.auto.list in
    let r : length c.args.list.now ≡ s.width = c.requires.room in
    let q : length (take c.loop-side.count c.loop-side.list) < s.width = room_left (height s) s.width c.args.variables c.loop-side.side c.args.seats.now (take c.loop-side.count c.loop-side.list) c.requires.seated c.loop-side.invariant.sides c.loop-side-test.true (free c) in
    omega arith

pub bounds-list-count : goal.bounds-list-count
bounds-list-count c = some_room c

pub loop-side-preserved : goal.loop-side-preserved
loop-side-preserved c =
    let s = c.args.system.now in
    let h = some_room c in
    let k : s.width ≤ c.loop-side.side = (let a = c.loop-side.auto in let e : c.unknowns-side.result ≡ s.width = c.unknowns-side.ensures in omega arith) in
    record {
      within = omega (arith, length-set c.loop-side.list c.loop-side.count c.loop-side.side);
      sides = subst (AreNonbasicSides s.width (c.loop-side.side + 1) c.args.seats.now) (sym (take_more_set c.loop-side.list c.loop-side.count c.loop-side.side h))
          (sides_more s.width c.loop-side.side c.args.seats.now (take c.loop-side.count c.loop-side.list) c.loop-side.invariant.sides k (free c));
    }

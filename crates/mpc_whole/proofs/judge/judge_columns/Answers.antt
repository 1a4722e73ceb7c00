use Rattle.std.proofs.Common.{ℕ, Option, Some, IfSome, ◌≡◌, ◌*◌, ◌<◌, ◌≤◌, unsigned_abs, subst, arith, le_trans, mul-le-mul_left}
use borrow.Author.Count.{below_more}
use Rattle.mpc_rows.specs.LinearSystem.{height}
use Rattle.mpc_runs.specs.Table.{variable_at}
use Rattle.mpc_whole.specs.Whole.{side_cell}
use Rattle.mpc_scaled.specs.Scaled.{whole_cell}
use Rattle.mpc_whole.specs.Judged.{HasRoomAt}
use Rattle.mpc_whole.proofs.ColumnSums.{in_column}
use Rattle.mpc_whole.proofs.Nonbasic.{stands}
use Rattle.mpc_whole.proofs.WholeForm.{column_norm}
use Rattle.mpc_whole.proofs.judge.judge_columns.Goals as goal

pub have_clear_room-requires-clause-below : goal.have_clear_room-requires-clause-below
have_clear_room-requires-clause-below c = in_column c.args.system.now c.args.frame.now.count c.args.here.now.seats.now c.args.here.now.nonbasic.now c.requires.here.seated c.requires.here.columns c.loop-column.column (let t = c.loop-column-test.true in let e = c.unknowns-width.ensures in omega arith)

pub entry_limit-limit-requires-clause-below : goal.entry_limit-limit-requires-clause-below
entry_limit-limit-requires-clause-below c = in_column c.args.system.now c.args.frame.now.count c.args.here.now.seats.now c.args.here.now.nonbasic.now c.requires.here.seated c.requires.here.columns c.loop-column.column (let t = c.loop-column-test.true in let e = c.unknowns-width.ensures in omega arith)

pub is_column_within-requires-clause-norm : goal.is_column_within-requires-clause-norm
is_column_within-requires-clause-norm c = c.requires.norm

pub is_column_within-requires-clause-room : goal.is_column_within-requires-clause-room
is_column_within-requires-clause-room c = c.requires.numbers.room

pub is_column_within-requires-clause-top : goal.is_column_within-requires-clause-top
is_column_within-requires-clause-top c = subst (λ w. (j : ℕ) → j < w → unsigned_abs (whole_cell w c.args.here.now.numbers.now j c.loop-column.column) ≤ c.column_top-top.result) c.unknowns-width.ensures c.column_top-top.ensures

there : {X : Type 0} {P : Type 0} (r : Option X) (x : X) → r ≡ Some x → IfSome r (λ _. P) → P
there {X} {P} r x e h = subst (λ (o : Option X). IfSome o (λ _. P)) e h

pub loop-column-preserved-in-Some : goal.loop-column-preserved-in-Some
loop-column-preserved-in-Some c =
    let s = c.args.system.now in
    let a = c.args.frame.now.a.now in
    let v = c.args.here.now.numbers.now in
    let at = variable_at c.args.here.now.nonbasic.now in
    let here = c.loop-column.column in
    let top = c.column_top-top.result in
    let below : (j : ℕ) → j < s.width → unsigned_abs (whole_cell s.width v j here) ≤ top = subst (λ w. (j : ℕ) → j < w → unsigned_abs (whole_cell w v j here) ≤ top) c.unknowns-width.ensures c.column_top-top.ensures in
    let norm = c.args.frame.now.norm in
    let room = there c.have_clear_room.result _ c.in-Some.is c.have_clear_room.ensures in
    let one : top * 1 ≤ top * norm = mul-le-mul_left top c.requires.norm.some in
    record {
      unknowns = λ j k h l. below_more (λ k. HasRoomAt s c.args.frame.now.scales.now c.args.frame.now.b.now c.args.by.enters c.args.by.top c.args.by.size (at k) (whole_cell s.width v j k)) here (λ k l. c.loop-column.invariant.unknowns j k h l) (room (whole_cell s.width v j here) (le_trans (below j h) (omega arith))) k l;
      sides = λ i k h l. below_more (λ k. HasRoomAt s c.args.frame.now.scales.now c.args.frame.now.b.now c.args.by.enters c.args.by.top c.args.by.size (at k) (side_cell s a v i k)) here (λ k l. c.loop-column.invariant.sides i k h l) (room (side_cell s a v i here) (le_trans (column_norm s a v norm top c.requires.norm here below i) (omega arith))) k l;
    }

pub loop-column-preserved : goal.loop-column-preserved
loop-column-preserved c =
    let s = c.args.system.now in
    let a = c.args.frame.now.a.now in
    let v = c.args.here.now.numbers.now in
    let at = variable_at c.args.here.now.nonbasic.now in
    let here = c.loop-column.column in
    record {
      unknowns = λ j k h l. below_more (λ k. HasRoomAt s c.args.frame.now.scales.now c.args.frame.now.b.now c.args.by.enters c.args.by.top c.args.by.size (at k) (whole_cell s.width v j k)) here (λ k l. c.loop-column.invariant.unknowns j k h l) (c.entry_limit-limit.ensures _ (c.in_ok-is_column_within.ensures.unknowns j h)) k l;
      sides = λ i k h l. below_more (λ k. HasRoomAt s c.args.frame.now.scales.now c.args.frame.now.b.now c.args.by.enters c.args.by.top c.args.by.size (at k) (side_cell s a v i k)) here (λ k l. c.loop-column.invariant.sides i k h l) (c.entry_limit-limit.ensures _ (c.in_ok-is_column_within.ensures.sides i h)) k l;
    }

pub returns-clause-unknowns : goal.returns-clause-unknowns
returns-clause-unknowns c = λ j y k h l e.
    let s = c.args.system.now in
    let here = c.args.here.now in
    let q = stands (height s) s.width c.args.frame.now.count here.seats.now here.nonbasic.now c.requires.here.seated c.requires.here.columns y k l e in
    subst (λ m. HasRoomAt s c.args.frame.now.scales.now c.args.frame.now.b.now c.args.by.enters c.args.by.top c.args.by.size m (whole_cell s.width here.numbers.now j k)) q.1 (c.loop-column.invariant.unknowns j k h (let t = c.loop-column-test.false in let w = c.unknowns-width.ensures in let i = q.0 in omega arith))

pub returns-clause-sides : goal.returns-clause-sides
returns-clause-sides c = λ i y k h l e.
    let s = c.args.system.now in
    let here = c.args.here.now in
    let q = stands (height s) s.width c.args.frame.now.count here.seats.now here.nonbasic.now c.requires.here.seated c.requires.here.columns y k l e in
    subst (λ m. HasRoomAt s c.args.frame.now.scales.now c.args.frame.now.b.now c.args.by.enters c.args.by.top c.args.by.size m (side_cell s c.args.frame.now.a.now here.numbers.now i k)) q.1 (c.loop-column.invariant.sides i k h (let t = c.loop-column-test.false in let w = c.unknowns-width.ensures in let i = q.0 in omega arith))

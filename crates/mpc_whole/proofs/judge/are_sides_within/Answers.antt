use Rattle.std.proofs.Common.{ℕ, ◌≡◌, ◌∙◌, ◌<◌, ◌≤◌, ◌+◌, ◌*◌, ◌*ℤ◌, ◌^◌, ap, arith, length, rules, subst, sym, unsigned_abs, FitsSigned}
use Rattle.std.specs.Int.{w128}
use Rattle.std.proofs.lemmas.Int.{to_z-of_z}
use borrow.Author.Count.{below_more}
use Rattle.mpc_rows.specs.LinearSystem.{height}
use Rattle.mpc_runs.specs.WholeNumbers.{whole_total, HasRoom}
use Rattle.mpc_scaled.specs.Scaled.{whole_cell}
use Rattle.mpc_whole.specs.Whole.{side_cell}
use Rattle.mpc_whole.proofs.WholeExchange.{rows_in}
use Rattle.mpc_whole.proofs.judge.are_sides_within.Goals as goal

pub column_value-requires-clause-inside : goal.column_value-requires-clause-inside
column_value-requires-clause-inside c =
    let h : c.loop-side.side < height c.args.system.now = (let t = c.loop-side-test.true in let e = c.height-side-end.ensures in omega arith) in
    subst (λ w. c.loop-side.side * w + w ≤ length c.args.entries.now) (sym c.unknowns-width.ensures)
    (rows_in c.args.system.now.width c.loop-side.side (height c.args.system.now) (length c.args.entries.now) h c.requires.entries)

pub column_value-requires-clause-room : goal.column_value-requires-clause-room
column_value-requires-clause-room c = λ h. subst (λ w. HasRoom w (2 ^ 62) c.args.entries.now) (sym c.unknowns-width.ensures) (c.requires.room h)

pub column_value-requires-clause-square : goal.column_value-requires-clause-square
column_value-requires-clause-square c = subst (λ w. length c.args.numbers.now ≡ w * w) (sym c.unknowns-width.ensures) c.requires.square

pub loop-side-preserved : goal.loop-side-preserved
loop-side-preserved c =
    let s = c.args.system.now in
    let i = c.loop-side.side in
    let f : FitsSigned w128 c.in_ok-cell.cell = search rules in
    let cell = λ (w : ℕ). whole_total w (λ j. whole_cell w c.args.entries.now i j *ℤ whole_cell w c.args.numbers.now j c.args.column) in
    let size : c.unsigned_abs.result ≡ unsigned_abs (cell s.width) = c.unsigned_abs.ensures.value ∙ ap unsigned_abs (to_z-of_z w128 _ f ∙ c.in_ok-cell.ensures ∙ ap cell c.unknowns-width.ensures) in
    below_more (λ k. unsigned_abs (side_cell s c.args.entries.now c.args.numbers.now k c.args.column) ≤ c.args.limit) i c.loop-side.invariant (subst (λ m. m ≤ c.args.limit) size c.if-unsigned_abs-limit.false)

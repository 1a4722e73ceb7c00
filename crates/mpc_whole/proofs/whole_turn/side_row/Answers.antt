use Rattle.std.proofs.Common.{arith, subst, sym, ap, ◌∙◌, ◌≡◌, ◌<◌, ◌≤◌, ◌+◌, ◌*◌, ◌^◌, ◌*ℤ◌, ℕ, length, to_z, of_z, unsigned_abs}
use Rattle.std.specs.Int.{w64}
use Rattle.mpc_rows.specs.LinearSystem.{height}
use Rattle.mpc_runs.specs.WholeNumbers.{whole_total}
use Rattle.mpc_scaled.specs.Scaled.{whole_cell}
use Rattle.mpc_whole.proofs.WholeExchange.{rows_in}
use Rattle.mpc_runs.proofs.WholeWidths.{back64}
use Rattle.mpc_runs.proofs.WholeLists.{set_below}
use Rattle.mpc_whole.proofs.whole_turn.side_row.Goals as goal

pub row_times_column-requires-clause-result_small : goal.row_times_column-requires-clause-result_small
row_times_column-requires-clause-result_small c =
    subst (λ w. unsigned_abs (whole_total w (λ j. whole_cell w c.args.entries.now c.args.side j *ℤ whole_cell w c.args.numbers.now j c.loop-column.column)) ≤ 2 ^ 62) (sym c.unknowns-width.ensures) (c.requires.row_small c.loop-column.column (let h = c.loop-column-test.true in let e = c.unknowns-width.ensures in omega arith))

pub row_times_column-requires-clause-inside : goal.row_times_column-requires-clause-inside
row_times_column-requires-clause-inside c =
    subst (λ w. c.args.side * w + w ≤ length c.args.entries.now) (sym c.unknowns-width.ensures)
    (rows_in c.args.system.now.width c.args.side (height c.args.system.now) (length c.args.entries.now) c.requires.side c.requires.entries)

pub row_times_column-requires-clause-square : goal.row_times_column-requires-clause-square
row_times_column-requires-clause-square c = subst (λ w. length c.args.numbers.now ≡ w * w) (sym c.unknowns-width.ensures) c.requires.square

pub loop-column-preserved : goal.loop-column-preserved
loop-column-preserved c =
    let b : c.loop-column.column < length c.loop-column.row = (let q : length c.loop-column.row ≡ length c.args.row.now = c.loop-column.auto.row in let r = c.requires.row_room in let t = c.loop-column-test.true in let e = c.unknowns-width.ensures in omega arith) in
    let cell = λ (w k : ℕ). whole_total w (λ j. whole_cell w c.args.entries.now c.args.side j *ℤ whole_cell w c.args.numbers.now j k) in
    set_below c.loop-column.row c.loop-column.column (to_z w64 (of_z w64 c.row_times_column.result)) b (cell c.args.system.now.width) c.loop-column.invariant
    (back64 c.row_times_column.result c.row_times_column.type_inv ∙ c.row_times_column.ensures ∙ ap (λ w. cell w c.loop-column.column) c.unknowns-width.ensures)

pub four_side_row-requires-clause-row_small : goal.four_side_row-requires-clause-row_small
four_side_row-requires-clause-row_small c =
    subst (λ w. (column : ℕ) → column < w → unsigned_abs (whole_total w (λ j. whole_cell w c.args.entries.now c.args.side j *ℤ whole_cell w c.args.numbers.now j column)) ≤ 2 ^ 62)
    (sym c.unknowns-width.ensures ∙ c.if-width-eq4.true) c.requires.row_small

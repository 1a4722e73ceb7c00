use Rattle.std.proofs.Common.{arith, ◌∙◌, ◌≡◌, ◌<◌, ◌*ℤ◌, ℕ, length, to_z, of_z}
use Rattle.std.specs.Int.{w64}
use Rattle.mpc_runs.specs.WholeNumbers.{whole_total}
use Rattle.mpc_scaled.specs.Scaled.{whole_cell}
use Rattle.mpc_runs.proofs.WholeWidths.{back64}
use Rattle.mpc_runs.proofs.WholeLists.{set_below}
use Rattle.mpc_whole.proofs.whole_turn.four_side_row.Goals as goal

pub four_row_times_column-requires-clause-result_small : goal.four_row_times_column-requires-clause-result_small
four_row_times_column-requires-clause-result_small c = c.requires.row_small c.loop-column.column (let h = c.loop-column-test.true in omega arith)

pub loop-column-preserved : goal.loop-column-preserved
loop-column-preserved c =
    let b : c.loop-column.column < length c.loop-column.row = (let q : length c.loop-column.row ≡ length c.args.row.now = c.loop-column.auto.row in let r = c.requires.row_room in let t = c.loop-column-test.true in omega arith) in
    let cell = λ (k : ℕ). whole_total 4 (λ j. whole_cell 4 c.args.entries.now c.args.side j *ℤ whole_cell 4 c.args.numbers.now j k) in
    set_below c.loop-column.row c.loop-column.column (to_z w64 (of_z w64 c.four_row_times_column.result)) b cell c.loop-column.invariant
    (back64 c.four_row_times_column.result c.four_row_times_column.type_inv ∙ c.four_row_times_column.ensures)

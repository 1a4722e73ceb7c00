use Rattle.std.proofs.Common.{arith, subst, sym, ap, ◌∙◌, ◌≡◌, ◌<◌, ◌≤◌, ◌+◌, ◌*◌, ◌*ℤ◌, ℕ, length, to_z, of_z, rules, FitsSigned}
use Rattle.std.specs.Int.{w128}
use Rattle.std.proofs.lemmas.Int.{to_z-of_z}
use Rattle.mpc_rows.specs.LinearSystem.{height}
use Rattle.mpc_runs.specs.WholeNumbers.{whole_total}
use Rattle.mpc_scaled.specs.Scaled.{whole_cell}
use Rattle.mpc_whole.proofs.WholeExchange.{rows_in}
use Rattle.mpc_runs.proofs.WholeLists.{set_below}
use Rattle.mpc_whole.proofs.whole_ends.side_row.Goals as goal
use Rattle.mpc_whole.proofs.whole_ends.side_row.Goals.{After-loop-column}

pub side_cell-requires-clause-inside : goal.side_cell-requires-clause-inside
side_cell-requires-clause-inside c =
    subst (λ w. c.args.side * w + w ≤ length c.args.entries.now) (sym c.unknowns-width.ensures)
    (rows_in c.args.system.now.width c.args.side (height c.args.system.now) (length c.args.entries.now) c.requires.side c.requires.entries)

pub side_cell-requires-clause-square : goal.side_cell-requires-clause-square
side_cell-requires-clause-square c = subst (λ w. length c.args.numbers.now ≡ w * w) (sym c.unknowns-width.ensures) c.requires.square

pub loop-column-preserved : goal.loop-column-preserved
loop-column-preserved c =
    let b : c.loop-column.column < length c.loop-column.row = (let q : length c.loop-column.row ≡ length c.args.row.now = c.loop-column.auto.row in let r = c.requires.row_size in let t = c.loop-column-test.true in let e = c.unknowns-width.ensures in omega arith) in
    let cell = λ (w k : ℕ). whole_total w (λ j. whole_cell w c.args.entries.now c.args.side j *ℤ whole_cell w c.args.numbers.now j k) in
    let f : FitsSigned w128 c.in_ok-cell.cell = search rules in
    set_below c.loop-column.row c.loop-column.column (to_z w128 (of_z w128 c.in_ok-cell.cell)) b (cell c.args.system.now.width) c.loop-column.invariant
    (to_z-of_z w128 _ f ∙ c.in_ok-cell.ensures ∙ ap (λ w. cell w c.loop-column.column) c.unknowns-width.ensures)

long : (c : After-loop-column) → length c.loop-column.row ≡ c.args.system.now.width
long c = (let q : length c.loop-column.row ≡ length c.args.row.now = c.loop-column.auto.row in q) ∙ c.requires.row_size

pub returns : goal.returns
returns c =
    let at = (goal.at.returns c).After-loop-column in
    record { size = long at; cells = λ k h. c.loop-column.invariant k (let e = c.unknowns-width.ensures in let t = c.loop-column-test.false in omega arith) }

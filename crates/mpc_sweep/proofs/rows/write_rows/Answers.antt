use Rattle.std.proofs.Common.{◌≡◌, ◌≤◌, ◌+◌, ◌-◌, ◌*◌, ◌∙◌, ℕ, length, List, ℤ, subst, arith}
use Rattle.std.specs.List.{between}
use Rattle.mpc_sweep.specs.Numbers.{told_columns}
use Rattle.mpc_sweep.specs.Steps.{IsNumber, AreWritten}
use Rattle.mpc_sweep.proofs.AllRows.{row_more, row_within}
use Rattle.mpc_sweep.proofs.OneNumber.{row_size}
use Rattle.mpc_sweep.proofs.rows.write_rows.Goals as goal

pub loop-at_row-preserved : goal.loop-at_row-preserved
loop-at_row-preserved c =
    let s = c.args.from.now in
    let p = c.args.pivot_place in
    let i = c.loop-at_row.at_row in
    let first = c.args.first in
    let told = s.columns - first in
    let k = i * told + s.columns - i * told in
    let part = between (i * told) (i * told + s.columns) c.loop-at_row.numbers in
    let new = c.write_row.new.out in
    let inside : i * told + s.columns ≤ length c.loop-at_row.numbers = (let e = row_within told first i s.rows c.loop-at_row-test.true in let f = c.requires.size in let g = c.loop-at_row.auto.numbers in let h = c.requires.first in omega arith) in
    let size : length part ≡ s.columns = row_size c.loop-at_row.numbers (i * told) s.columns inside in
    let written : AreWritten c.args.most first s.columns (IsNumber (told_columns s) s.den c.args.taken s.numbers.items p i) part new =
    subst (λ (v : List ℤ). AreWritten c.args.most first s.columns (IsNumber (told_columns s) s.den c.args.taken v p i) part new) c.as_slice-table.ensures.value
    (subst (λ (d : ℕ). AreWritten c.args.most first s.columns (IsNumber (told_columns s) s.den d c.as_slice-table.result.now p i) part new) c.of-by.ensures
    (subst (λ (n : ℕ). AreWritten c.args.most first n (IsNumber (told_columns s) s.den c.of-by.result.den c.as_slice-table.result.now p i) part new) size (c.write_row.ensures c.if-not-write_row.false)))
    in
    row_more c.args.most (told_columns s) s.den c.args.taken s.numbers.items p first told s.columns i k c.loop-at_row.numbers new c.loop-at_row.invariant (c.write_row.auto.out ∙ size) (let h = c.requires.first in omega arith) inside written

use Rattle.std.proofs.Common.{ℕ, ◌≡◌, ◌∙◌, ◌<◌, length, sym, ap, subst, subst₂, arith, rules, pos, get_or, FitsSigned}
use Rattle.std.specs.Int.{w128}
use Rattle.std.proofs.lemmas.Int.{to_z-of_z}
use borrow.Author.Count.{below_more}
use Rattle.mpc_rows.specs.LinearSystem.{height}
use Rattle.mpc_runs.specs.Table.{variable_at}
use Rattle.mpc_scaled.specs.Scaled.{whole_at}
use Rattle.mpc_whole.specs.Judged.{row_cell, coefficient_of, IsTermStated}
use Rattle.mpc_whole.proofs.ColumnSums.{in_column}
use Rattle.mpc_whole.proofs.Nonbasic.{stands}
use Rattle.mpc_whole.proofs.stated.are_terms_stated.Goals as goal
use Rattle.mpc_whole.proofs.stated.are_terms_stated.Goals.{In-loop-column}

scale_below : (c : In-loop-column) → variable_at c.args.here.now.nonbasic.now c.loop-column.column < length c.args.frame.now.scales.now
scale_below c =
    let b = in_column c.args.system.now c.args.frame.now.count c.args.here.now.seats.now c.args.here.now.nonbasic.now c.requires.here.seated c.requires.here.columns c.loop-column.column (let t = c.loop-column-test.true in let e = c.unknowns-column-end.ensures in omega arith) in
    let n = c.requires.numbers.count in
    let k = c.requires.numbers.whole.scales.size in
    omega arith

pub bounds-frame-column_variable : goal.bounds-frame-column_variable
bounds-frame-column_variable c = scale_below (goal.at.bounds-frame-column_variable c).In-loop-column

pub offset_bounds-frame-column_variable : goal.offset_bounds-frame-column_variable
offset_bounds-frame-column_variable c = let h = scale_below (goal.at.offset_bounds-frame-column_variable c).In-loop-column in search rules

pub loop-column-preserved-then-column_variable-by : goal.loop-column-preserved-then-column_variable-by
loop-column-preserved-then-column_variable-by c =
    let k = c.args.frame.now.scales.now in
    let j = c.loop-column.column in
    let at = variable_at c.args.here.now.nonbasic.now in
    let cell = λ (d : ℕ). row_cell c.args.system.now c.args.frame.now.a.now c.args.here.now.numbers.now c.args.row_variable d in
    let row = c.args.by.now.row.now in
    below_more (λ d. (at d ≡ c.args.by.now.entering → ⊥) → IsTermStated (coefficient_of k c.args.here.now.den c.args.row_variable (at d) (cell d)) c.args.factor.now (coefficient_of k c.args.by.now.rest c.args.by.now.leaving (at d) (whole_at row d)) c.args.pivot.now) j c.loop-column.invariant (λ apart. absurd (apart c.if-column_variable-by.true))

pub loop-column-preserved : goal.loop-column-preserved
loop-column-preserved c =
    let k = c.args.frame.now.scales.now in
    let j = c.loop-column.column in
    let at = variable_at c.args.here.now.nonbasic.now in
    let cell = λ (d : ℕ). row_cell c.args.system.now c.args.frame.now.a.now c.args.here.now.numbers.now c.args.row_variable d in
    let row = c.args.by.now.row.now in
    let f : FitsSigned w128 c.in_ok-cell.cell = search rules in
    let g : FitsSigned w128 (get_or c.args.by.now.row.now j (pos 0)) = search rules in
    let old : c.in_ok-old.old ≡ coefficient_of k c.args.here.now.den c.args.row_variable (at j) (cell j) =
    c.in_ok-old.ensures ∙ ap (coefficient_of k c.args.here.now.den c.args.row_variable (at j)) (to_z-of_z w128 _ f ∙ c.in_ok-cell.ensures)
    in
    let number : c.in_ok-number.number ≡ coefficient_of k c.args.by.now.rest c.args.by.now.leaving (at j) (whole_at row j) =
    c.in_ok-number.ensures ∙ ap (coefficient_of k c.args.by.now.rest c.args.by.now.leaving (at j)) (to_z-of_z w128 _ g)
    in
    below_more (λ d. (at d ≡ c.args.by.now.entering → ⊥) → IsTermStated (coefficient_of k c.args.here.now.den c.args.row_variable (at d) (cell d)) c.args.factor.now (coefficient_of k c.args.by.now.rest c.args.by.now.leaving (at d) (whole_at row d)) c.args.pivot.now) j c.loop-column.invariant
    (λ _. subst₂ (λ u w. IsTermStated u c.args.factor.now w c.args.pivot.now) old number c.in_ok-is_term_stated.ensures)

pub returns : goal.returns
returns c = λ y d l apart e.
    let s = c.args.system.now in
    let k = c.args.frame.now.scales.now in
    let here = c.args.here.now in
    let q = stands (height s) s.width c.args.frame.now.count here.seats.now here.nonbasic.now c.requires.here.seated c.requires.here.columns y d l e in
    subst (λ m. IsTermStated (coefficient_of k here.den c.args.row_variable m (row_cell s c.args.frame.now.a.now here.numbers.now c.args.row_variable d)) c.args.factor.now (coefficient_of k c.args.by.now.rest c.args.by.now.leaving m (whole_at c.args.by.now.row.now d)) c.args.pivot.now) q.1
    (c.loop-column.invariant d (let t = c.loop-column-test.false in let w = c.unknowns-column-end.ensures in let i = q.0 in omega arith) (λ p. apart (sym q.1 ∙ p)))

pub row_cell-requires-clause-column : goal.row_cell-requires-clause-column
row_cell-requires-clause-column c = let t = c.loop-column-test.true in let e = c.unknowns-column-end.ensures in omega arith

pub row_cell-requires-clause-below : goal.row_cell-requires-clause-below
row_cell-requires-clause-below c = subst (λ n. c.args.row_variable < n) c.requires.numbers.count c.requires.below

pub row_cell-requires-clause-entries : goal.row_cell-requires-clause-entries
row_cell-requires-clause-entries c = c.requires.numbers.whole.entries_size

pub row_cell-requires-clause-square : goal.row_cell-requires-clause-square
row_cell-requires-clause-square c = c.requires.here.square

pub coefficient-requires-clause-some : goal.coefficient-requires-clause-some
coefficient-requires-clause-some c = c.requires.here.some

pub coefficient-requires-in-loop-column-clause-some : goal.coefficient-requires-in-loop-column-clause-some
coefficient-requires-in-loop-column-clause-some c = c.requires.by.some

pub coefficient-requires-clause-own : goal.coefficient-requires-clause-own
coefficient-requires-clause-own c = c.requires.numbers.whole.scales.some c.args.row_variable (subst (λ n. c.args.row_variable < n) c.requires.numbers.count c.requires.below)

pub coefficient-requires-in-loop-column-clause-own : goal.coefficient-requires-in-loop-column-clause-own
coefficient-requires-in-loop-column-clause-own c = c.requires.numbers.whole.scales.some c.args.by.now.leaving (subst (λ n. c.args.by.now.leaving < n) c.requires.numbers.count c.requires.by.leaves)

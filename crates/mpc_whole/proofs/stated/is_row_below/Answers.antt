use Rattle.std.proofs.Common.{ℕ, ◌≡◌, ◌∙◌, ◌<◌, ◌≤◌, ◌*◌, ◌^◌, length, sym, ap, subst, subst₂, arith, rules, FitsSigned, unsigned_abs}
use Rattle.std.specs.Int.{w128}
use Rattle.std.proofs.lemmas.Int.{to_z-of_z}
use borrow.Author.Count.{below_more}
use Rattle.mpc_rows.specs.LinearSystem.{height}
use Rattle.mpc_runs.specs.Table.{variable_at}
use Rattle.mpc_scaled.specs.Scaled.{scale_at}
use Rattle.mpc_whole.specs.Judged.{row_cell}
use Rattle.mpc_whole.proofs.ColumnSums.{in_column}
use Rattle.mpc_whole.proofs.Nonbasic.{stands}
use Rattle.mpc_whole.proofs.stated.is_row_below.Goals as goal
use Rattle.mpc_whole.proofs.stated.is_row_below.Goals.{In-loop-column}

scale_below : (c : In-loop-column) → variable_at c.args.here.now.nonbasic.now c.loop-column.column < length c.args.frame.now.scales.now
scale_below c =
    let b = in_column c.args.system.now c.args.frame.now.count c.args.here.now.seats.now c.args.here.now.nonbasic.now c.requires.here.seated c.requires.here.columns c.loop-column.column (let t = c.loop-column-test.true in let e = c.unknowns-column-end.ensures in omega arith) in
    let n = c.requires.numbers.count in
    let k = c.requires.numbers.whole.scales.size in
    omega arith

pub bounds-frame-column_variable : goal.bounds-frame-column_variable
bounds-frame-column_variable c = scale_below (goal.at.bounds-frame-column_variable c).In-loop-column

pub offset_bounds-frame-column_variable : goal.offset_bounds-frame-column_variable
offset_bounds-frame-column_variable c = let h = scale_below (goal.at.offset_bounds-frame-column_variable c).In-loop-column in search rules

pub loop-column-preserved : goal.loop-column-preserved
loop-column-preserved c =
    let k = c.args.frame.now.scales.now in
    let j = c.loop-column.column in
    let at = variable_at c.args.here.now.nonbasic.now in
    let cell = λ (d : ℕ). row_cell c.args.system.now c.args.frame.now.a.now c.args.here.now.numbers.now c.args.row_variable d in
    let f : FitsSigned w128 c.in_ok-cell.cell = search rules in
    let size : c.unsigned_abs.result ≡ unsigned_abs (cell j) = c.unsigned_abs.ensures.value ∙ ap unsigned_abs (to_z-of_z w128 _ f ∙ c.in_ok-cell.ensures) in
    let number : c.in_ok-number.number ≡ unsigned_abs (cell j) * scale_at k (at j) = c.in_ok-number.ensures.1 ∙ ap (λ m. m * scale_at k (at j)) size in
    let all : c.in_ok-number.number * c.factor_at.result ≤ 2 ^ 125 = subst (λ m. m ≤ 2 ^ 125) c.in_ok-product.ensures.1 (let h = c.if-product-gt-ROOM.false in omega arith) in
    let within = λ (t : ℕ) (e : c.factor_at.result ≡ t). subst₂ (λ m t. m * t ≤ 2 ^ 125) number e all in
    record {
      entering = below_more (λ d. at d ≡ c.args.by.enters → (unsigned_abs (cell d) * scale_at k (at d)) * c.args.by.top ≤ 2 ^ 125) j c.loop-column.invariant.entering (λ o. within c.args.by.top (c.factor_at.ensures.entering o));
      others = below_more (λ d. (at d ≡ c.args.by.enters → ⊥) → (unsigned_abs (cell d) * scale_at k (at d)) * c.args.by.size ≤ 2 ^ 125) j c.loop-column.invariant.others (λ o. within c.args.by.size (c.factor_at.ensures.other o));
    }

pub returns : goal.returns
returns c =
    let s = c.args.system.now in
    let k = c.args.frame.now.scales.now in
    let here = c.args.here.now in
    let cell = λ (d : ℕ). row_cell s c.args.frame.now.a.now here.numbers.now c.args.row_variable d in
    let at = stands (height s) s.width c.args.frame.now.count here.seats.now here.nonbasic.now c.requires.here.seated c.requires.here.columns in
    let inside : (d : ℕ) → d < s.width → d < c.loop-column.column = λ d h. let t = c.loop-column-test.false in let e = c.unknowns-column-end.ensures in omega (arith, h) in
    record {
      room = subst (λ m. m * c.args.by.size ≤ 2 ^ 125) c.in_ok-scaled.ensures.1 (subst (λ m. m ≤ 2 ^ 125) c.in_ok-room.ensures.1 (let h = c.if-room-gt-ROOM.false in omega arith));
      entering = λ y d l e o. let q = at y d l e in subst (λ m. (unsigned_abs (cell d) * scale_at k m) * c.args.by.top ≤ 2 ^ 125) q.1 (c.loop-column.invariant.entering d (inside d q.0) (q.1 ∙ o));
      others = λ y d l e o. let q = at y d l e in subst (λ m. (unsigned_abs (cell d) * scale_at k m) * c.args.by.size ≤ 2 ^ 125) q.1 (c.loop-column.invariant.others d (inside d q.0) (λ p. o (sym q.1 ∙ p)));
    }

pub row_cell-requires-clause-column : goal.row_cell-requires-clause-column
row_cell-requires-clause-column c = let t = c.loop-column-test.true in let e = c.unknowns-column-end.ensures in omega arith

pub row_cell-requires-clause-below : goal.row_cell-requires-clause-below
row_cell-requires-clause-below c = subst (λ n. c.args.row_variable < n) c.requires.numbers.count c.requires.below

pub row_cell-requires-clause-entries : goal.row_cell-requires-clause-entries
row_cell-requires-clause-entries c = c.requires.numbers.whole.entries_size

pub row_cell-requires-clause-square : goal.row_cell-requires-clause-square
row_cell-requires-clause-square c = c.requires.here.square

pub bounds-frame-row_variable : goal.bounds-frame-row_variable
bounds-frame-row_variable c = let h = c.requires.below in let n = c.requires.numbers.count in let l = c.requires.numbers.whole.scales.size in omega arith

pub offset_bounds-frame-row_variable : goal.offset_bounds-frame-row_variable
offset_bounds-frame-row_variable c = let h = c.requires.below in let n = c.requires.numbers.count in let l = c.requires.numbers.whole.scales.size in omega arith

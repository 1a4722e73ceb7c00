use Rattle.std.proofs.Common.{sym, ◌∙◌, ap, ◌≡◌, ◌≤◌, ◌<◌, ◌+◌, ◌*◌, pos, get_or, length, arith, to_z, of_z, subst, unsigned_abs, ◌⊎◌, inr, le_refl, rules, FitsSigned}
use Rattle.std.specs.Int.{w128}
use Rattle.std.proofs.lemmas.Int.{to_z-of_z}
use Rattle.mpc_whole.specs.Whole.{IsChanged}
use Rattle.mpc_runs.specs.WholeNumbers.{turned}
use Rattle.mpc_scaled.specs.Scaled.{whole_at, whole_cell}
use Rattle.mpc_whole.proofs.WholeExchange.{row_done, row_kept, number_raised, row_below, row_inside}
use Rattle.mpc_whole.proofs.reduced.raise_row.Goals as goal
use Rattle.mpc_whole.proofs.reduced.raise_row.Goals.{After-loop-column, In-loop-column, Start}

pub loop-column-preserved : goal.loop-column-preserved
loop-column-preserved c =
    let w = length c.args.row.now in
    let k = c.args.unknown * length c.args.row.now + c.loop-column.column in
    let b : k < length c.loop-column.numbers = (let l : length c.loop-column.numbers ≡ length c.args.numbers.now = c.loop-column.auto.numbers in let s = c.requires.square in let r = row_below w c.args.unknown w c.loop-column.column c.requires.row c.loop-column-test.true in omega arith) in
    let fx : FitsSigned w128 (get_or c.args.row.now c.args.pivot_column (pos 0)) = search rules in
    let fv : FitsSigned w128 (get_or c.args.numbers.now (c.args.unknown * w + c.args.pivot_column) (pos 0)) = search rules in
    let fo : FitsSigned w128 (get_or c.loop-column.numbers k (pos 0)) = search rules in
    let fy : FitsSigned w128 (get_or c.args.row.now c.loop-column.column (pos 0)) = search rules in
    let ff : FitsSigned w128 c.in_ok-factor.factor = search rules in
    let fs : FitsSigned w128 c.in_ok-size.size = search rules in
    let fd : FitsSigned w128 c.in_ok-before.before = search rules in
    let fn : FitsSigned w128 c.in_ok-new.new = search rules in
    let xe : to_z w128 (of_z w128 (get_or c.args.row.now c.args.pivot_column (pos 0))) ≡ whole_at c.args.row.now c.args.pivot_column = to_z-of_z w128 _ fx in
    let ve : to_z w128 (of_z w128 (get_or c.args.numbers.now (c.args.unknown * w + c.args.pivot_column) (pos 0))) ≡ whole_cell w c.args.numbers.now c.args.unknown c.args.pivot_column = to_z-of_z w128 _ fv in
    let factor : to_z w128 (of_z w128 c.in_ok-factor.factor) ≡ turned (whole_at c.args.row.now c.args.pivot_column) (whole_cell w c.args.numbers.now c.args.unknown c.args.pivot_column) =
    to_z-of_z w128 _ ff ∙ c.in_ok-factor.ensures.value ∙ (λ i. turned (xe i) (ve i))
    in
    let old : to_z w128 (of_z w128 (get_or c.loop-column.numbers k (pos 0))) ≡ whole_cell w c.args.numbers.now c.args.unknown c.loop-column.column = to_z-of_z w128 _ fo ∙ c.loop-column.invariant.kept k (inr (le_refl k)) in
    let y : to_z w128 (of_z w128 (get_or c.args.row.now c.loop-column.column (pos 0))) ≡ whole_at c.args.row.now c.loop-column.column = to_z-of_z w128 _ fy in
    let size : to_z w128 (of_z w128 c.in_ok-size.size) ≡ pos (unsigned_abs (whole_at c.args.row.now c.args.pivot_column)) = to_z-of_z w128 _ fs ∙ c.in_ok-size.ensures ∙ ap pos (c.unsigned_abs.ensures.value ∙ ap unsigned_abs xe) in
    let den : to_z w128 (of_z w128 c.in_ok-before.before) ≡ pos c.args.den = to_z-of_z w128 _ fd ∙ c.in_ok-before.ensures in
    let back : to_z w128 (of_z w128 c.in_ok-new.new) ≡ c.in_ok-new.new = to_z-of_z w128 _ fn in
    let changes : IsChanged w 1 c.args.den c.args.numbers.now c.args.row.now c.args.unknown c.args.pivot_column c.loop-column.column (to_z w128 (of_z w128 c.in_ok-new.new)) =
    number_raised w c.args.den c.args.numbers.now c.args.row.now c.args.unknown c.args.pivot_column c.loop-column.column _ _ _ _ _ _ old factor y size den (λ h. back ∙ c.in_ok-new.ensures.entering h) (λ h. back ∙ c.in_ok-new.ensures.other h)
    in
    record {
      done = row_done w 1 c.args.den c.args.numbers.now c.loop-column.numbers c.args.row.now c.args.unknown c.args.pivot_column c.loop-column.column (to_z w128 (of_z w128 c.in_ok-new.new)) b c.loop-column.invariant.done changes;
      kept = row_kept w 1 c.args.den c.args.numbers.now c.loop-column.numbers c.args.row.now c.args.unknown c.args.pivot_column c.loop-column.column (to_z w128 (of_z w128 c.in_ok-new.new)) b c.loop-column.invariant.kept;
    }

all_of : (c : After-loop-column) → c.loop-column.column ≡ length c.args.row.now
all_of c = let a = c.loop-column.auto.column-end in let b = c.loop-column-test.false in omega arith

pub returns-clause-cells : goal.returns-clause-cells
returns-clause-cells c = λ k h. c.loop-column.invariant.done k (let t = c.loop-column-test.false in omega arith)

pub returns-clause-others : goal.returns-clause-others
returns-clause-others c =
    let at = goal.at.returns-clause-others c in
    λ k h. c.loop-column.invariant.kept k (subst (λ m. (k < c.args.unknown * length c.args.row.now) ⊎ (c.args.unknown * length c.args.row.now + m ≤ k)) (sym (all_of at.After-loop-column)) h)

-- the places of the row: that of the pivot, and each that the loop comes by
pivot_in : (c : Start) → c.args.unknown * length c.args.row.now + c.args.pivot_column < length c.args.numbers.now
pivot_in c = row_inside (length c.args.row.now) c.args.unknown c.args.pivot_column (length c.args.numbers.now) c.requires.square c.requires.row c.requires.column

place_in : (c : In-loop-column) → c.args.unknown * length c.args.row.now + c.loop-column.column < length c.loop-column.numbers
place_in c = row_inside (length c.args.row.now) c.args.unknown c.loop-column.column (length c.loop-column.numbers) ((let q : length c.loop-column.numbers ≡ length c.args.numbers.now = c.loop-column.auto.numbers in q) ∙ c.requires.square) c.requires.row c.loop-column-test.true

pub overflow_mul-from : goal.overflow_mul-from
overflow_mul-from c = let r = pivot_in (goal.at.overflow_mul-from c).Start in omega arith

pub overflow_add-from : goal.overflow_add-from
overflow_add-from c = let r = pivot_in (goal.at.overflow_add-from c).Start in omega arith

pub offset_bounds-numbers-from : goal.offset_bounds-numbers-from
offset_bounds-numbers-from c = let r = pivot_in (goal.at.offset_bounds-numbers-from c).Start in omega arith

pub bounds-numbers-from : goal.bounds-numbers-from
bounds-numbers-from c = place_in (goal.at.bounds-numbers-from c).In-loop-column

pub overflow_add-from-in-loop-column : goal.overflow_add-from-in-loop-column
overflow_add-from-in-loop-column c = let r = place_in (goal.at.overflow_add-from-in-loop-column c).In-loop-column in omega arith

pub overflow_add-new : goal.overflow_add-new
overflow_add-new c = let r = place_in (goal.at.overflow_add-new c).In-loop-column in omega arith

pub offset_bounds-numbers-from-in-loop-column : goal.offset_bounds-numbers-from-in-loop-column
offset_bounds-numbers-from-in-loop-column c = let r = place_in (goal.at.offset_bounds-numbers-from-in-loop-column c).In-loop-column in omega arith

pub offset_bounds-numbers-from-in-loop-column-2 : goal.offset_bounds-numbers-from-in-loop-column-2
offset_bounds-numbers-from-in-loop-column-2 c = let r = place_in (goal.at.offset_bounds-numbers-from-in-loop-column-2 c).In-loop-column in omega arith

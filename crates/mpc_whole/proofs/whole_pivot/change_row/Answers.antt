use Rattle.std.proofs.Common.{sym, ◌∙◌, ap, ◌≡◌, ◌≤◌, ◌<◌, ◌+◌, ◌*◌, ◌^◌, ℕ, pos, get_or, length, arith, to_z, of_z, subst, unsigned_abs, le_trans, le_refl, ℤ, set, Option, None, Some, ◌⊎◌, inl, inr}
use Rattle.std.specs.Prelude.{IfSome}
use Rattle.std.specs.Int.{w64}
use Rattle.std.proofs.lemmas.Bool.{cases_lt}
use Rattle.mpc_whole.specs.Changes.{IsChangedBy}
use Rattle.mpc_whole.specs.declared.whole_pivot.Change.{Change}
use Rattle.mpc_runs.specs.WholeNumbers.{turned}
use Rattle.mpc_scaled.specs.Scaled.{whole_at, whole_cell}
use Rattle.mpc_runs.proofs.WholeWidths.{read_small, read_bound}
use Rattle.std.proofs.Math.ListN.{length-set}
use Rattle.mpc_runs.proofs.WholeLists.{set_small, set_bound}
use Rattle.mpc_whole.proofs.RowParts.{row_cells, row_stays}
use Rattle.mpc_whole.proofs.WholeExchange.{row_inside, rows_in}
use Rattle.mpc_whole.proofs.whole_pivot.change_row.Goals as goal
use Rattle.mpc_whole.proofs.whole_pivot.change_row.Goals.{Start}

-- the factor is small, and so the same where it is read from the change
small_turned : (v f : ℤ) → unsigned_abs v ≤ 2 ^ 62 → unsigned_abs f ≤ unsigned_abs (to_z w64 (of_z w64 v)) → unsigned_abs f ≤ 2 ^ 62
small_turned v f h s = le_trans s (read_bound v (2 ^ 62) h (le_refl (2 ^ 62)))

read_twice : (z : ℤ) → unsigned_abs z ≤ 2 ^ 62 → to_z w64 (of_z w64 (to_z w64 (of_z w64 z))) ≡ z
read_twice z h = ap (λ u. to_z w64 (of_z w64 u)) (read_small z h) ∙ read_small z h

pub change_columns-requires-2-clause-small : goal.change_columns-requires-2-clause-small
change_columns-requires-2-clause-small c =
    let k = c.args.unknown * length c.args.row.now + c.args.pivot_column in
    let v = c.change_columns.new.numbers in
    let f = c.turned.result in
    let b : k < length v = (let l : length v ≡ length c.args.numbers.now = c.change_columns.auto.numbers in let r = row_inside (length c.args.row.now) c.args.unknown c.args.pivot_column (length c.args.numbers.now) c.requires.square c.requires.row c.requires.column in omega arith) in
    let most : unsigned_abs f ≤ c.args.terms.most = le_trans c.turned.ensures.small (read_bound (whole_at c.args.numbers.now k) c.args.terms.most (c.requires.small.each k) c.requires.most_small) in
    set_small v k (to_z w64 (of_z w64 (to_z w64 (of_z w64 f)))) b c.args.terms.most c.in_ok-own.ensures.small
    (subst (λ u. unsigned_abs u ≤ c.args.terms.most) (sym (read_twice f (le_trans most c.requires.most_small))) most)

with_both : (o : Option ℕ) (P Q R : ℕ → Type 0) → IfSome o P → IfSome o Q → ((x : ℕ) → P x → Q x → R x) → IfSome o R
with_both None P Q R p q f = tt
with_both (Some x) P Q R p q f = f x p q

pub returns-clause-cells : goal.returns-clause-cells
returns-clause-cells c =
    let w = length c.args.row.now in
    let x = c.args.row.now in
    let j = c.args.unknown in
    let e = c.args.pivot_column in
    let k = j * w + e in
    let v = c.change_columns.new.numbers in
    let new = c.change_columns-2.new.numbers in
    let f = c.turned.result in
    let z = to_z w64 (of_z w64 (to_z w64 (of_z w64 f))) in
    let g : Change = record { factor = to_z w64 (of_z w64 f); size = c.unsigned_abs.result; by = c.args.terms.by; most = c.args.terms.most } in
    let b : k < length v = (let l : length v ≡ length c.args.numbers.now = c.change_columns.auto.numbers in let r = row_inside w j e (length c.args.numbers.now) c.requires.square c.requires.row c.requires.column in omega arith) in
    let xe : to_z w64 (of_z w64 (get_or x e (pos 0))) ≡ whole_at x e = read_small _ (c.requires.row_small.each e) in
    let vs : unsigned_abs (get_or c.args.numbers.now k (pos 0)) ≤ 2 ^ 62 = le_trans (c.requires.small.each k) c.requires.most_small in
    let ve : to_z w64 (of_z w64 (get_or c.args.numbers.now k (pos 0))) ≡ whole_cell w c.args.numbers.now j e = read_small _ vs in
    let fs : unsigned_abs f ≤ 2 ^ 62 = small_turned (whole_at c.args.numbers.now k) f vs c.turned.ensures.small in
    let back : z ≡ g.factor = ap (λ u. to_z w64 (of_z w64 u)) (read_small f fs) in
    let factor : g.factor ≡ turned (whole_at x e) (whole_cell w c.args.numbers.now j e) = read_small f fs ∙ c.turned.ensures.value ∙ (λ i. turned (xe i) (ve i)) in
    let size : g.size ≡ unsigned_abs (whole_at x e) = c.unsigned_abs.ensures.value ∙ ap unsigned_abs xe in
    let before : (m : ℕ) → m < e → IsChangedBy g (whole_cell w c.args.numbers.now j m) (whole_at x m) (whole_cell w v j m) = λ m h. let q = c.in_ok-own.ensures.cells m (omega arith) h in cc in
    let kept : (m : ℕ) → k ≤ m → whole_at v m ≡ whole_at c.args.numbers.now m = λ m h. c.in_ok-own.ensures.others m (inr h) in
    with_both c.change_columns-2.result _ _ _ c.change_columns-2.ensures.cells c.change_columns-2.ensures.others
    (λ own cells others.
    let behind : (m : ℕ) → e + 1 ≤ m → m < w → IsChangedBy g (whole_cell w (set v k z) j m) (whole_at x m) (whole_cell w new j m) = λ m h l. let q = cells m h l in cc in
    row_cells g w c.args.numbers.now v new x j e z c.requires.column b back factor size before kept behind others)

pub returns-then-change-terms-clause-cells : goal.returns-then-change-terms-clause-cells
returns-then-change-terms-clause-cells c =
    let w = length c.args.row.now in
    let x = c.args.row.now in
    let j = c.args.unknown in
    let e = c.args.pivot_column in
    let k = j * w + e in
    let f = c.turned.result in
    let xe : to_z w64 (of_z w64 (get_or x e (pos 0))) ≡ whole_at x e = read_small _ (c.requires.row_small.each e) in
    let vs : unsigned_abs (get_or c.args.numbers.now k (pos 0)) ≤ 2 ^ 62 = le_trans (c.requires.small.each k) c.requires.most_small in
    let ve : to_z w64 (of_z w64 (get_or c.args.numbers.now k (pos 0))) ≡ whole_cell w c.args.numbers.now j e = read_small _ vs in
    let factor : f ≡ turned (whole_at x e) (whole_cell w c.args.numbers.now j e) = c.turned.ensures.value ∙ (λ i. turned (xe i) (ve i)) in
    let none : f ≡ pos 0 = sym (read_twice f (small_turned (whole_at c.args.numbers.now k) f vs c.turned.ensures.small)) ∙ ap (to_z w64) c.if-change-eq0.true in
    let size : c.unsigned_abs.result ≡ unsigned_abs (whole_at x e) = c.unsigned_abs.ensures.value ∙ ap unsigned_abs xe in
    λ m h. row_stays w c.args.terms.by.den c.args.numbers.now x j e (sym factor ∙ none) (sym size ∙ c.if-change-terms.true) m

-- the place of the row's number in the pivot's column
pivot_in : (c : Start) → c.args.unknown * length c.args.row.now + c.args.pivot_column < length c.args.numbers.now
pivot_in c = row_inside (length c.args.row.now) c.args.unknown c.args.pivot_column (length c.args.numbers.now) c.requires.square c.requires.row c.requires.column

row_in : (c : Start) → c.args.unknown * length c.args.row.now + length c.args.row.now ≤ length c.args.numbers.now
row_in c = rows_in (length c.args.row.now) c.args.unknown (length c.args.row.now) (length c.args.numbers.now) c.requires.row c.requires.square

pub overflow_mul-from : goal.overflow_mul-from
overflow_mul-from c = let r = pivot_in (goal.at.overflow_mul-from c).Start in omega arith

pub overflow_add-from : goal.overflow_add-from
overflow_add-from c = let r = pivot_in (goal.at.overflow_add-from c).Start in omega arith

pub overflow_add-from-2 : goal.overflow_add-from-2
overflow_add-from-2 c = let r = pivot_in (goal.at.overflow_add-from-2 c).Start in omega arith

pub offset_bounds-numbers-from : goal.offset_bounds-numbers-from
offset_bounds-numbers-from c = let r = pivot_in (goal.at.offset_bounds-numbers-from c).Start in omega arith

pub offset_bounds-numbers-from-2 : goal.offset_bounds-numbers-from-2
offset_bounds-numbers-from-2 c = let r = pivot_in (goal.at.offset_bounds-numbers-from-2 c).Start in let l : length c.change_columns.new.numbers ≡ length c.args.numbers.now = c.change_columns.auto.numbers in omega arith

pub bounds-numbers-from : goal.bounds-numbers-from
bounds-numbers-from c = let r = pivot_in (goal.at.bounds-numbers-from c).Start in let l : length c.change_columns.new.numbers ≡ length c.args.numbers.now = c.change_columns.auto.numbers in omega arith

pub change_columns-requires-clause-inside : goal.change_columns-requires-clause-inside
change_columns-requires-clause-inside c = row_in (goal.at.change_columns-requires-clause-inside c).Start

pub change_columns-requires-2-clause-inside : goal.change_columns-requires-2-clause-inside
change_columns-requires-2-clause-inside c = let r = row_in (goal.at.change_columns-requires-2-clause-inside c).Start in let l : length c.change_columns.new.numbers ≡ length c.args.numbers.now = c.change_columns.auto.numbers in omega (arith, length-set {A = ℤ})

pub change_columns-requires-2-clause-before : goal.change_columns-requires-2-clause-before
change_columns-requires-2-clause-before c =
    let k = c.args.unknown * length c.args.row.now + c.args.pivot_column in
    let v = c.change_columns.new.numbers in
    let r = pivot_in (goal.at.change_columns-requires-2-clause-before c).Start in
    let b : k < length v = (let l : length v ≡ length c.args.numbers.now = c.change_columns.auto.numbers in omega arith) in
    λ q h. set_bound v k _ b c.in_ok-own.own c.max-own.result c.in_ok-own.ensures.own (let e = c.max-own.ensures in omega arith) (let e = c.max-own.ensures in let s = c.unsigned_abs-2.ensures.value in omega arith) q (omega arith)

pub returns-then-change-terms-clause-own : goal.returns-then-change-terms-clause-own
returns-then-change-terms-clause-own c = λ k h. by k (cases_lt k (c.args.unknown * length c.args.row.now))
  where
    by : (k : ℕ) → (k < c.args.unknown * length c.args.row.now) ⊎ (c.args.unknown * length c.args.row.now ≤ k) → unsigned_abs (whole_at c.args.numbers.now k) ≤ c.max.result
    by k (inl l) = let e = c.max.ensures in let b = c.requires.before k l in omega arith
    by k (inr l) = let e = c.max.ensures in let b = c.requires.top k l in omega arith

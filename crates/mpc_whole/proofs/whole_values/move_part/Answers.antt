use Rattle.std.proofs.Common.{◌≡◌, ℕ, ◌+◌, ◌*◌, ◌<◌, ◌≤◌, ◌^◌, ◌+ℤ◌, ◌*ℤ◌, neg_ℤ, ℤ, List, pos, get_or, length, sym, ◌∙◌, ap, subst, arith, to_z, of_z, unsigned_abs, le_refl, below_more, [], ◌∷◌}
use Rattle.std.specs.Int.{w64}
use Rattle.std.proofs.lemmas.Int.{to_z-of_z}
use Rattle.mpc_scaled.specs.Scaled.{whole_at, whole_cell}
use Rattle.mpc_exact.proofs.IntRing.{int_reads, by_ring_ℤ}
use Rattle.mpc_whole.specs.Moved.{excess, IsMoved}
use Rattle.mpc_runs.proofs.WholeSums.{whole_total-zeros}
use Rattle.mpc_runs.proofs.WholeWidths.{read_small, read_bound}
use Rattle.mpc_runs.proofs.WholeLists.{set_small, set_above, set_product}
use Rattle.mpc_whole.proofs.RowParts.{number_stays}
use Rattle.mpc_whole.proofs.WholeExchange.{row_inside}
use Rattle.mpc_whole.proofs.whole_values.move_part.Goals as goal

times_zero : (x : ℤ) → x *ℤ pos 0 ≡ pos 0
times_zero x = by_ring_ℤ (x ∷ []) (search int_reads depth 30) (search int_reads depth 30) tt

nothing : (d k f : ℤ) → pos 0 *ℤ d ≡ (pos 0 *ℤ k) +ℤ neg_ℤ (f *ℤ (pos 0 +ℤ neg_ℤ (pos 0 *ℤ d)))
nothing d k f = by_ring_ℤ (d ∷ k ∷ f ∷ []) (search int_reads depth 30) (search int_reads depth 30) tt

-- where all is 0 it stays so
stays : (width : ℕ) (a : List ℤ) (i : ℕ) (g : ℤ) (v : List ℤ) (e den size : ℕ) (c : List ℤ) → ((k : ℕ) → whole_at c k ≡ pos 0) → g ≡ pos 0 → IsMoved width a i g v e den size c c
stays width a i g v e den size c zeros none = record {
  each = λ j l. ap (λ u. u *ℤ pos den) (zeros j) ∙ nothing (pos den) (pos size) (whole_cell width v j e)
      ∙ sym (λ t. (zeros j t *ℤ pos size) +ℤ neg_ℤ (whole_cell width v j e *ℤ (whole_total-zeros width (λ m. whole_cell width a i m *ℤ whole_at c m) (λ m. ap (λ u. whole_cell width a i m *ℤ u) (zeros m) ∙ times_zero (whole_cell width a i m)) t +ℤ neg_ℤ (none t *ℤ pos den))));
}

pub loop-unknown-preserved : goal.loop-unknown-preserved
loop-unknown-preserved c =
    let w = length c.args.values.now in
    let b : c.loop-unknown.unknown < length c.loop-unknown.values = (let q : length c.loop-unknown.values ≡ length c.args.values.now = c.loop-unknown.auto.values in let t = c.loop-unknown-test.true in omega arith) in
    let z = to_z w64 (of_z w64 c.in_ok-new.new) in
    let back : z ≡ c.in_ok-new.new = read_small c.in_ok-new.new c.in_ok-new.ensures.small in
    let old : to_z w64 (of_z w64 (get_or c.loop-unknown.values c.loop-unknown.unknown (pos 0))) ≡ whole_at c.args.values.now c.loop-unknown.unknown = read_small _ (c.loop-unknown.invariant.small.each c.loop-unknown.unknown) ∙ c.loop-unknown.invariant.kept c.loop-unknown.unknown (le_refl c.loop-unknown.unknown) in
    let factor : to_z w64 (of_z w64 (get_or c.args.numbers.now (c.loop-unknown.unknown * w + c.args.pivot.column) (pos 0))) ≡ whole_cell w c.args.numbers.now c.loop-unknown.unknown c.args.pivot.column = read_small _ (c.requires.pivot.numbers_small.each (c.loop-unknown.unknown * w + c.args.pivot.column)) in
    let over : to_z w64 (of_z w64 c.in_ok-over.over) ≡ excess w c.args.entries.now c.args.pivot.side (to_z w64 (of_z w64 c.args.limit)) c.args.pivot.by.den c.args.values.now = read_small _ c.in_ok-over.ensures.small ∙ c.in_ok-over.ensures.value in
    let e : z *ℤ pos c.args.pivot.by.den ≡ (whole_at c.args.values.now c.loop-unknown.unknown *ℤ pos c.args.pivot.size) +ℤ neg_ℤ (whole_cell w c.args.numbers.now c.loop-unknown.unknown c.args.pivot.column *ℤ excess w c.args.entries.now c.args.pivot.side (to_z w64 (of_z w64 c.args.limit)) c.args.pivot.by.den c.args.values.now) =
    ap (λ u. u *ℤ pos c.args.pivot.by.den) back ∙ c.in_ok-new.ensures.value ∙ (λ t. (old t *ℤ pos c.args.pivot.size) +ℤ neg_ℤ (factor t *ℤ over t))
    in
    record {
      done = set_product c.loop-unknown.values c.loop-unknown.unknown z b (pos c.args.pivot.by.den) (λ k. (whole_at c.args.values.now k *ℤ pos c.args.pivot.size) +ℤ neg_ℤ (whole_cell w c.args.numbers.now k c.args.pivot.column *ℤ excess w c.args.entries.now c.args.pivot.side (to_z w64 (of_z w64 c.args.limit)) c.args.pivot.by.den c.args.values.now)) c.loop-unknown.invariant.done e;
      kept = set_above c.loop-unknown.values c.loop-unknown.unknown z b c.args.values.now c.loop-unknown.invariant.kept;
      small = set_small c.loop-unknown.values c.loop-unknown.unknown z b (2 ^ 62) c.loop-unknown.invariant.small (subst (λ u. unsigned_abs u ≤ 2 ^ 62) (sym back) c.in_ok-new.ensures.small);
    }

-- a value stays where its factor is 0
pub loop-unknown-preserved-then-pivot : goal.loop-unknown-preserved-then-pivot
loop-unknown-preserved-then-pivot c =
    let w = length c.args.values.now in
    let j = c.loop-unknown.unknown in
    let over = excess w c.args.entries.now c.args.pivot.side (to_z w64 (of_z w64 c.args.limit)) c.args.pivot.by.den c.args.values.now in
    let read : to_z w64 (of_z w64 (get_or c.args.numbers.now (j * w + c.args.pivot.column) (pos 0))) ≡ whole_cell w c.args.numbers.now j c.args.pivot.column = read_small _ (c.requires.pivot.numbers_small.each (j * w + c.args.pivot.column)) in
    let none : whole_cell w c.args.numbers.now j c.args.pivot.column ≡ pos 0 = sym read ∙ ap (to_z w64) c.if-factor-eq0.true in
    let same = number_stays (whole_at c.args.values.now j) (whole_cell w c.args.numbers.now j c.args.pivot.column) over c.args.pivot.by.den c.args.pivot.size none c.if-pivot.true in
    record {
      done = below_more _ _ c.loop-unknown.invariant.done (ap (λ u. u *ℤ pos c.args.pivot.by.den) (c.loop-unknown.invariant.kept j (le_refl j)) ∙ same);
      kept = λ k h. c.loop-unknown.invariant.kept k (omega arith);
      small = c.loop-unknown.invariant.small;
    }

pub returns-then-are_zero-clause-moved : goal.returns-then-are_zero-clause-moved
returns-then-are_zero-clause-moved c =
    stays (length c.args.values.now) c.args.entries.now c.args.pivot.side c.args.limit c.args.numbers.now c.args.pivot.column c.args.pivot.by.den c.args.pivot.size c.args.values.now (c.are_zero.ensures c.if-are_zero.true)
    (sym (to_z-of_z w64 c.args.limit c.ranges.limit) ∙ ap (to_z w64) c.if-limit-eq0.true)

pub returns-in_err-over : goal.returns-in_err-over
returns-in_err-over c = rw c.from_residual.ensures (record { moved = tt; small = tt })

-- places in the column
pub overflow_mul-factor : goal.overflow_mul-factor
overflow_mul-factor c = let r = row_inside (length c.args.values.now) c.loop-unknown.unknown c.args.pivot.column (length c.args.numbers.now) c.requires.pivot.square c.loop-unknown-test.true c.requires.pivot.column in omega arith

pub overflow_add-factor : goal.overflow_add-factor
overflow_add-factor c = let r = row_inside (length c.args.values.now) c.loop-unknown.unknown c.args.pivot.column (length c.args.numbers.now) c.requires.pivot.square c.loop-unknown-test.true c.requires.pivot.column in omega arith

pub offset_bounds-numbers-unknown : goal.offset_bounds-numbers-unknown
offset_bounds-numbers-unknown c = let r = row_inside (length c.args.values.now) c.loop-unknown.unknown c.args.pivot.column (length c.args.numbers.now) c.requires.pivot.square c.loop-unknown-test.true c.requires.pivot.column in omega arith

pub bounds-numbers-unknown : goal.bounds-numbers-unknown
bounds-numbers-unknown c = row_inside (length c.args.values.now) c.loop-unknown.unknown c.args.pivot.column (length c.args.numbers.now) c.requires.pivot.square c.loop-unknown-test.true c.requires.pivot.column

pub changed-requires-clause-v_small : goal.changed-requires-clause-v_small
changed-requires-clause-v_small c = read_bound (whole_at c.loop-unknown.values c.loop-unknown.unknown) (2 ^ 62) (c.loop-unknown.invariant.small.each c.loop-unknown.unknown) (le_refl (2 ^ 62))

pub changed-requires-clause-k_small : goal.changed-requires-clause-k_small
changed-requires-clause-k_small c = read_bound (whole_at c.args.numbers.now (c.loop-unknown.unknown * length c.args.values.now + c.args.pivot.column)) (2 ^ 62) (c.requires.pivot.numbers_small.each (c.loop-unknown.unknown * length c.args.values.now + c.args.pivot.column)) (le_refl (2 ^ 62))

pub changed-requires-clause-x_small : goal.changed-requires-clause-x_small
changed-requires-clause-x_small c = read_bound c.in_ok-over.over (2 ^ 62) c.in_ok-over.ensures.small (le_refl (2 ^ 62))

pub returns-in_err-new : goal.returns-in_err-new
returns-in_err-new c = rw c.from_residual-in_err-new.ensures (record { moved = tt; small = tt })

pub returns-clause-moved : goal.returns-clause-moved
returns-clause-moved c =
    subst (λ g. IsMoved (length c.args.values.now) c.args.entries.now c.args.pivot.side g c.args.numbers.now c.args.pivot.column c.args.pivot.by.den c.args.pivot.size c.args.values.now c.loop-unknown.values) (to_z-of_z w64 c.args.limit c.ranges.limit)
    (record { each = λ j h. c.loop-unknown.invariant.done j (let t = c.loop-unknown-test.false in omega arith) })
